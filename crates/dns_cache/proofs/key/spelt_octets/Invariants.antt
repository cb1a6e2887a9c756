use Rattle.std.proofs.Common.{◌≡◌, ◌++◌, length}
use Rattle.dns_name.specs.Labels.{AreLabels, spell}
use Rattle.dns_cache.proofs.key.spelt_octets.Given as goal

abbrev pub invariant-labels : goal.invariant-labels
invariant-labels l = record {
  so_far : l.octets.items ++ spell l.left ≡ spell l.fn.labels;
  fits : AreLabels l.left;
}

abbrev pub decreases-labels : goal.decreases-labels
decreases-labels l = length l.left
