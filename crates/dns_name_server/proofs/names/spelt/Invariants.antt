use Rattle.std.proofs.Common.{◌≡◌, ◌+◌, ◌≤◌, ◌++◌, length}
use Rattle.dns_name.specs.Labels.{spell}
use Rattle.dns_name_server.proofs.names.spelt.Given as goal

abbrev pub invariant-labels : goal.invariant-labels
invariant-labels l = record {
  so_far : l.octets.items ++ spell l.labels ≡ spell l.fn.labels;
  room : length l.octets.items + length (spell l.labels) ≤ 255;
}

abbrev pub decreases-labels : goal.decreases-labels
decreases-labels l = length l.labels
