use Rattle.std.proofs.Common.{◌≡◌, ◌++◌, length}
use Rattle.dns_name.specs.Labels.{spell, AreLabels}
use Rattle.dns_name.proofs.name.spelt.Given as goal

abbrev pub invariant-labels : goal.invariant-labels
invariant-labels l = record {
  so_far : l.octets.items ++ spell l.labels ≡ spell l.fn.labels;
  fits : AreLabels l.labels;
}

abbrev pub decreases-labels : goal.decreases-labels
decreases-labels l = length l.labels
