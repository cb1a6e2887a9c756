use Rattle.std.proofs.Common.{◌≡◌, drop}
use Rattle.dns_base.specs.Builds.{KeepsLimit, with_records}
use Rattle.dns_base.proofs.builder.Builder.push_all.Given as goal

abbrev pub invariant-each : goal.invariant-each
invariant-each g l = record {
  same : with_records g.S.RecordStage.section l.self (drop l.item-index l.records) ≡ with_records g.S.RecordStage.section l.fn.self l.records;
  short : KeepsLimit l.self;
}
