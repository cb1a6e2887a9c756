use Rattle.std.proofs.Common.{◌≡◌, ◌≤◌, ◌++◌, length, take}
use Rattle.dns_name.specs.Labels.{spell, AreLabels}
use Rattle.dns_message.proofs.write.push_labels.Given as goal

abbrev pub invariant-labels : goal.invariant-labels
invariant-labels l = record {
  so_far : l.target.items ++ spell l.labels ≡ l.fn.target.items ++ spell l.fn.labels;
  fits : AreLabels l.labels;
  before : take (length l.fn.target.items) l.target.items ≡ l.fn.target.items;
  longer : length l.fn.target.items ≤ length l.target.items;
}

abbrev pub decreases-labels : goal.decreases-labels
decreases-labels l = length l.labels
