use Rattle.std.proofs.Common.{◌≡◌, length}
use Rattle.dns_denial.specs.Validation.{shown_encloser}
use Rattle.dns_denial.proofs.encloser.encloser.Given as goal

abbrev pub invariant-labels : goal.invariant-labels
invariant-labels l = shown_encloser l.nsec l.left ≡ shown_encloser l.fn.nsec l.fn.name

abbrev pub decreases-labels : goal.decreases-labels
decreases-labels l = length l.left
