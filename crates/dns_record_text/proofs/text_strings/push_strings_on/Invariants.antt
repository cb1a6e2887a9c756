use Rattle.std.proofs.Common.{◌≡◌, ◌++◌, drop}
use Rattle.dns_record_text.specs.RecordText.{strings_on}
use Rattle.dns_record_text.proofs.text_strings.push_strings_on.Given as goal

abbrev pub invariant-loop-octet : goal.invariant-loop-octet
invariant-loop-octet l = l.target.items ++ strings_on l.left (drop l.octet-index l.octets) ≡ l.fn.target.items ++ strings_on l.length l.octets
