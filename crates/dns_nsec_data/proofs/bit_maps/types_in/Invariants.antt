use Rattle.std.proofs.Common.{length}
use Rattle.dns_nsec_data.proofs.BlockLaws.{AreRead}
use Rattle.dns_nsec_data.proofs.bit_maps.types_in.Given as goal

abbrev pub invariant-each : goal.invariant-each
invariant-each l = AreRead l.octets l.left l.low l.types.items

abbrev pub decreases-each : goal.decreases-each
decreases-each l = length l.left
