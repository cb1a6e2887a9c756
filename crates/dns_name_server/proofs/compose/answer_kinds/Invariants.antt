use Rattle.std.proofs.Common.{◌≡◌, drop, map}
use Rattle.dns_base.specs.declared.draft.Section.TheVariants.{Answer}
use Rattle.dns_base.specs.Builds.{KeepsLimit, with_records}
use Rattle.dns_base.specs.Records.{record_of}
use Rattle.dns_zone.specs.Places.{at_places}
use Rattle.dns_zone_tree.specs.Kinds.{places_of}
use Rattle.dns_name_server.proofs.compose.answer_kinds.Given as goal

abbrev pub invariant-each : goal.invariant-each
invariant-each l = record {
  same : with_records Answer l.reply (map record_of (at_places l.records (places_of l.rtype (drop l.kind-index l.kinds)))) ≡ with_records Answer l.fn.reply (map record_of (at_places l.records (places_of l.rtype l.kinds)));
  short : KeepsLimit l.reply;
}
