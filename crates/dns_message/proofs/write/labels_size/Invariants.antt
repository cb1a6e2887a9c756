use Rattle.std.proofs.Common.{◌≡◌, ◌+◌, length}
use Rattle.dns_name.specs.Labels.{spell}
use Rattle.dns_message.proofs.write.labels_size.Given as goal

abbrev pub invariant-labels : goal.invariant-labels
invariant-labels l = l.size + length (spell l.labels) ≡ 1 + length (spell l.fn.labels)

abbrev pub decreases-labels : goal.decreases-labels
decreases-labels l = length l.labels
