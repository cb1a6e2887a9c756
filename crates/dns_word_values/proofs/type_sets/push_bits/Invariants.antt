use Rattle.std.proofs.Common.{◌≡◌, ◌++◌}
use Rattle.dns_word_values.specs.TypeSets.{bits_from}
use Rattle.dns_word_values.proofs.type_sets.push_bits.Given as goal

abbrev pub invariant-loop-place : goal.invariant-loop-place
invariant-loop-place l = l.octets.items ≡ l.fn.octets.items ++ bits_from l.types l.rtype l.place
