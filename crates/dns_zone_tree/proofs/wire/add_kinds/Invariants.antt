use Rattle.std.proofs.Common.{◌≡◌, ◌++◌, map, take}
use Rattle.dns_base.specs.Records.{record_of}
use Rattle.dns_zone.specs.Places.{at_places}
use Rattle.dns_zone_tree.specs.Kinds.{places_of}
use Rattle.dns_zone_tree.proofs.wire.add_kinds.Given as goal

abbrev pub invariant-each : goal.invariant-each
invariant-each l = l.into ≡ l.fn.into ++ map record_of (at_places l.records (places_of l.rtype (take l.kind-index l.kinds)))
