use Rattle.std.proofs.Common.{◌≡◌, drop}
use Rattle.std.specs.List.{filter}
use Rattle.dns_zone.specs.Owned.{is_of}
use Rattle.dns_zone_tree.proofs.listing.negative_of.Given as goal

abbrev pub invariant-each : goal.invariant-each
invariant-each l = filter (is_of 6) (drop l.record-index l.records) ≡ filter (is_of 6) l.records
