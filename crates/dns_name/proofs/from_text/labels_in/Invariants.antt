use Rattle.std.proofs.Common.{◌-◌, length}
use Rattle.dns_name.specs.FromText.{text_labels}
use Rattle.dns_name.proofs.FromNames.{Reached}
use Rattle.dns_name.proofs.from_text.labels_in.Given as goal

abbrev pub invariant-labels : goal.invariant-labels
invariant-labels l = Reached (text_labels l.fn.text) l.octets.items l.rest

abbrev pub decreases-labels : goal.decreases-labels
decreases-labels l = 255 - length l.octets.items
