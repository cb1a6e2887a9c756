use Rattle.std.proofs.Common.{◌≡◌, drop, map}
use Rattle.dns_base.specs.Builds.{KeepsLimit, with_records}
use Rattle.dns_base.specs.Records.{record_of}
use Rattle.dns_zone.specs.Places.{at_places}
use Rattle.dns_zone.proofs.sections.add_places.Given as goal

abbrev pub invariant-each : goal.invariant-each
invariant-each g l = record {
  same : with_records g.B.TakesRecords.section (g.B.TakesRecords.built l.builder) (map record_of (at_places l.records (drop l.place-index l.places))) ≡ with_records g.B.TakesRecords.section (g.B.TakesRecords.built l.fn.builder) (map record_of (at_places l.records l.places));
  short : KeepsLimit (g.B.TakesRecords.built l.builder);
}
