use Rattle.std.proofs.Common.{◌≡◌, drop}
use Rattle.dns_record_text.specs.RecordText.{end_strings}
use Rattle.dns_record_text.proofs.text_strings.end_strings.Given as goal

abbrev pub invariant-loop-octet : goal.invariant-loop-octet
invariant-loop-octet l = end_strings l.left (drop l.octet-index l.octets) ≡ end_strings l.length l.octets
