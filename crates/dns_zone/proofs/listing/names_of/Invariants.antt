use Rattle.std.proofs.Common.{take}
use Rattle.std.specs.List.{AllByRecursion}
use Rattle.dns_zone.specs.ZoneIndex.{KnowsPlaces}
use Rattle.dns_zone.specs.Owned.{HasNamedData}
use Rattle.dns_zone.proofs.listing.names_of.Given as goal

abbrev pub invariant-each : goal.invariant-each
invariant-each l = record {
  known : KnowsPlaces l.names (take l.place l.records);
  named : AllByRecursion HasNamedData (take l.place l.records);
}
