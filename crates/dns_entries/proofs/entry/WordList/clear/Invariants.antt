use Rattle.std.proofs.Common.{length}
use Rattle.std.specs.Prelude.{⊤}
use Rattle.dns_entries.proofs.entry.WordList.clear.Given as goal

abbrev pub invariant-words : goal.invariant-words
invariant-words l = ⊤

abbrev pub decreases-words : goal.decreases-words
decreases-words l = length l.self-inside.words.items
