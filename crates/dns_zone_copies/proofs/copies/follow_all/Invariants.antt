use Rattle.std.proofs.Common.{◌≡◌, drop}
use Rattle.dns_zone_copies.proofs.Follows.{Makes}
use Rattle.dns_zone_copies.proofs.copies.follow_all.Given as goal

abbrev pub invariant-each : goal.invariant-each
invariant-each g l = record {
  zones : l.before.zones.now ≡ l.zones;
  makes : Makes l.zones l.keys l.config.zone.items l.summaries l.now (drop l.entry-index l.config.zone.items) l.left l.secondaries.items;
}
