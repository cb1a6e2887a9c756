use Rattle.std.proofs.Common.{◌≡◌, drop}
use Rattle.std.specs.List.{list_all}
use Rattle.dns_word_values.specs.Base32.{is_base32_digit}
use Rattle.dns_word_values.proofs.base32.are_digits.Given as goal

abbrev pub invariant-loop-octet : goal.invariant-loop-octet
invariant-loop-octet l = list_all is_base32_digit (drop l.octet-index l.word) ≡ list_all is_base32_digit l.word
