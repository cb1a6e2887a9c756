use Rattle.std.proofs.Common.{◌≡◌, map, take}
use Rattle.dns_zone_copies.specs.Targets.{watched_zone}
use Rattle.dns_zone_copies.proofs.target.watched.Given as goal

abbrev pub invariant-each : goal.invariant-each
invariant-each l = l.zones.items ≡ map watched_zone (take l.secondary-index l.secondaries)
