use Rattle.std.proofs.Common.{◌≡◌, ◌++◌, length}
use Rattle.dns_name.specs.Labels.{AreLabels, folded}
use Rattle.dns_zone.specs.Paths.{marked}
use Rattle.dns_zone.proofs.path.marked_octets.Given as goal

abbrev pub invariant-labels : goal.invariant-labels
invariant-labels l = record {
  so_far : l.octets.items ++ marked (folded l.left) ≡ marked (folded l.fn.name);
  fits : AreLabels l.left;
}

abbrev pub decreases-labels : goal.decreases-labels
decreases-labels l = length l.left
