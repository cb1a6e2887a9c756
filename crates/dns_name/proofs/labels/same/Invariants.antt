use Rattle.std.proofs.Common.{◌≡◌, ◌↔◌, length}
use Rattle.dns_name.specs.Labels.{folded}
use Rattle.dns_name.proofs.labels.same.Given as goal

abbrev pub invariant-labels : goal.invariant-labels
invariant-labels l = (folded l.labels ≡ folded l.others) ↔ (folded l.fn.labels ≡ folded l.fn.others)

abbrev pub decreases-labels : goal.decreases-labels
decreases-labels l = length l.labels
