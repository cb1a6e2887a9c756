use Rattle.std.proofs.Common.{◌≤◌, ◌-◌, length}
use Rattle.dns_zone_copies.proofs.primary.fill.Given as goal

abbrev pub invariant-each : goal.invariant-each
invariant-each g l = l.filled ≤ length l.buffer

abbrev pub decreases-each : goal.decreases-each
decreases-each g l = length l.buffer - l.filled
