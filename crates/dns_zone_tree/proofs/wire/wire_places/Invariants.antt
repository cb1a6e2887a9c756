use Rattle.std.proofs.Common.{◌≡◌, map, take}
use Rattle.dns_base.specs.Records.{record_of}
use Rattle.dns_zone.specs.Places.{at_places}
use Rattle.dns_zone_tree.proofs.wire.wire_places.Given as goal

abbrev pub invariant-each : goal.invariant-each
invariant-each l = l.all ≡ map record_of (at_places l.records (take l.place-index l.places))
