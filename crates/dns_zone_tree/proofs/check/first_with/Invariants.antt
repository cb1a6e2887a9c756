use Rattle.std.proofs.Common.{◌≡◌, drop}
use Rattle.std.specs.List.{position_from}
use Rattle.dns_zone_tree.specs.TreeErrors.{has_defect}
use Rattle.dns_zone_tree.proofs.check.first_with.Given as goal

abbrev pub invariant-each : goal.invariant-each
invariant-each l = position_from (has_defect l.fault l.apex) l.index (drop l.index l.records) ≡ position_from (has_defect l.fault l.apex) 0 l.records
