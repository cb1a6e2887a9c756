use Rattle.std.proofs.Common.{◌≡◌, ◌+◌, ◌≤◌, length, drop}
use Rattle.std.specs.List.{filter}
use Rattle.dns_zone.specs.Owned.{is_of}
use Rattle.dns_zone_tree.proofs.check.count_soa.Given as goal

abbrev pub invariant-each : goal.invariant-each
invariant-each l = record {
  all : l.count + length (filter (is_of 6) (drop l.record-index l.records)) ≡ length (filter (is_of 6) l.records);
  few : l.count ≤ l.record-index;
}
