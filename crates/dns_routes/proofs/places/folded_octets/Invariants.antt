use Rattle.std.proofs.Common.{◌≡◌, ◌++◌, length}
use Rattle.dns_name.specs.Labels.{AreLabels}
use Rattle.dns_routes.specs.Places.{name_key}
use Rattle.dns_routes.proofs.places.folded_octets.Given as goal

abbrev pub invariant-labels : goal.invariant-labels
invariant-labels l = record {
  so_far : l.octets.items ++ name_key l.left ≡ name_key l.fn.name;
  fits : AreLabels l.left;
}

abbrev pub decreases-labels : goal.decreases-labels
decreases-labels l = length l.left
