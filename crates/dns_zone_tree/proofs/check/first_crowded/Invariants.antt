use Rattle.std.proofs.Common.{◌≡◌, drop}
use Rattle.std.specs.List.{position_from}
use Rattle.dns_zone_tree.specs.TreeErrors.{is_crowded}
use Rattle.dns_zone_tree.proofs.check.first_crowded.Given as goal

abbrev pub invariant-each : goal.invariant-each
invariant-each l = position_from (is_crowded l.records) l.index (drop l.index l.records) ≡ position_from (is_crowded l.records) 0 l.records
