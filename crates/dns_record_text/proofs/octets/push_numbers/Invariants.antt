use Rattle.std.proofs.Common.{◌≡◌, ◌++◌, drop, map}
use Rattle.dns_record_text.specs.RecordText.{behind_spaces, number_word}
use Rattle.dns_record_text.proofs.octets.push_numbers.Given as goal

abbrev pub invariant-loop-number : goal.invariant-loop-number
invariant-loop-number l = l.target.items ++ behind_spaces (map number_word (drop l.number-index l.numbers)) ≡ l.fn.target.items ++ behind_spaces (map number_word l.numbers)
