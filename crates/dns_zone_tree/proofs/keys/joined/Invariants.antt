use Rattle.std.proofs.Common.{length}
use Rattle.dns_zone_tree.specs.Joining.{IsJoining}
use Rattle.dns_zone_tree.proofs.keys.joined.Given as goal

abbrev pub invariant-each : goal.invariant-each
invariant-each l = IsJoining l.octets l.keyed l.joining.nodes.items l.joining.pending.places.items l.left

abbrev pub decreases-each : goal.decreases-each
decreases-each l = length l.left
