use Rattle.std.proofs.Common.{◌≡◌, drop}
use Rattle.dns_base.specs.Builds.{KeepsLimit, with_records}
use Rattle.dns_cache.specs.AgedRecords.{AreMarkedRecords, aged_records}
use Rattle.dns_cache.proofs.built.push_aged.Given as goal

abbrev pub invariant-marks : goal.invariant-marks
invariant-marks g l = record {
  same : with_records g.S.RecordStage.section l.builder (aged_records l.age (drop l.mark-index l.records.marks.now) l.left)
      ≡ with_records g.S.RecordStage.section l.fn.builder (aged_records l.age l.records.marks.now l.records.octets.now);
  marked : AreMarkedRecords (drop l.mark-index l.records.marks.now) l.left;
  short : KeepsLimit l.builder;
}
