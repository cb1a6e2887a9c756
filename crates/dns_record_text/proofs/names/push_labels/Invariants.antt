use Rattle.std.proofs.Common.{◌≡◌, ◌++◌, length}
use Rattle.dns_record_text.specs.RecordText.{escaped_labels}
use Rattle.dns_record_text.proofs.names.push_labels.Given as goal

abbrev pub invariant-labels : goal.invariant-labels
invariant-labels l = l.target.items ++ escaped_labels l.labels ≡ l.fn.target.items ++ escaped_labels l.fn.labels

abbrev pub decreases-labels : goal.decreases-labels
decreases-labels l = length l.labels
