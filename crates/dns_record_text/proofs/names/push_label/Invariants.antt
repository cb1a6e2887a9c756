use Rattle.std.proofs.Common.{◌≡◌, ◌++◌, drop}
use Rattle.dns_record_text.specs.RecordText.{escaped_label}
use Rattle.dns_record_text.proofs.names.push_label.Given as goal

abbrev pub invariant-loop-octet : goal.invariant-loop-octet
invariant-loop-octet l = l.target.items ++ escaped_label (drop l.octet-index l.label) ≡ l.fn.target.items ++ escaped_label l.label
