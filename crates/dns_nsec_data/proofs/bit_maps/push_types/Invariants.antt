use Rattle.std.proofs.Common.{◌≡◌, ◌++◌}
use Rattle.dns_nsec_data.specs.BitMaps.{first_types}
use Rattle.dns_nsec_data.proofs.bit_maps.push_types.Given as goal

abbrev pub invariant-loop-bit : goal.invariant-loop-bit
invariant-loop-bit l = l.types.items ≡ l.fn.types.items ++ first_types l.bitmap l.first l.bit
