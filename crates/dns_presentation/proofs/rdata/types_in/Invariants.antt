use Rattle.std.proofs.Common.{◌≡◌, drop, []}
use Rattle.dns_presentation.specs.Fields.{types_after}
use Rattle.dns_presentation.proofs.rdata.types_in.Given as goal

abbrev pub invariant-loop-word : goal.invariant-loop-word
invariant-loop-word l = types_after l.types.items (drop l.word-index l.words) ≡ types_after [] l.words
