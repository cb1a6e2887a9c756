use Rattle.dns_book.proofs.Steps.{settle_turns}
use Rattle.dns_book.proofs.book.Book.settle.Goals as goal

pub load-requires-clause-rule : goal.load-requires-clause-rule
load-requires-clause-rule g c = settle_turns _ _ c.requires.live.0 c.requires.live.1
