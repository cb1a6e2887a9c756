use Rattle.std.proofs.Common.{◌≡◌, drop, []}
use Rattle.dns_presentation.specs.Fields.{joined_after}
use Rattle.dns_presentation.proofs.rdata.joined.Given as goal

abbrev pub invariant-loop-word : goal.invariant-loop-word
invariant-loop-word l = joined_after l.octets.items (drop l.word-index l.words) ≡ joined_after [] l.words
