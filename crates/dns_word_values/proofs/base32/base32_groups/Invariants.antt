use Rattle.std.proofs.Common.{◌≡◌}
use Rattle.dns_word_values.specs.Base32.{base32_groups}
use Rattle.dns_word_values.proofs.base32.base32_groups.Given as goal

abbrev pub invariant-loop-group : goal.invariant-loop-group
invariant-loop-group l = l.octets.items ≡ base32_groups l.word l.group
