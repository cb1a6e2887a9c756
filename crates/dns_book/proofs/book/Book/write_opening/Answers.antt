use Rattle.std.proofs.Common.{ap}
use Rattle.dns_book.specs.declared.rule.View.{View}
use Rattle.dns_book.proofs.Steps.{open_turns}
use Rattle.dns_book.proofs.book.Book.write_opening.Goals as goal

pub swap-requires-clause-rule : goal.swap-requires-clause-rule
swap-requires-clause-rule g c = open_turns _ _ c.book_words.result (ap (λ (v : View). v.opened) c.requires.new)
