use Rattle.std.proofs.Common.{◌≡◌, length}
use Rattle.zoned.specs.Zones.{stands_twice}
use Rattle.zoned.proofs.load.refuse_twice.Given as goal

abbrev pub invariant-each : goal.invariant-each
invariant-each l = stands_twice l.entries ≡ stands_twice l.config.zone.items

abbrev pub decreases-each : goal.decreases-each
decreases-each l = length l.entries
