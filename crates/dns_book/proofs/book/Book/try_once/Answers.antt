use Rattle.dns_book.proofs.Turns.{read_turns}
use Rattle.dns_book.proofs.book.Book.try_once.Goals as goal

pub load-words-requires-clause-rule : goal.load-words-requires-clause-rule
load-words-requires-clause-rule g c = read_turns _ _
