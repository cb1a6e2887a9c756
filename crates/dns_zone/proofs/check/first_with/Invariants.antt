use Rattle.std.proofs.Common.{◌≡◌, drop}
use Rattle.std.specs.List.{position_from}
use Rattle.dns_zone.specs.Defects.{has_defect}
use Rattle.dns_zone.proofs.check.first_with.Given as goal

abbrev pub invariant-each : goal.invariant-each
invariant-each l = position_from (has_defect l.defect l.apex) l.index (drop l.index l.records) ≡ position_from (has_defect l.defect l.apex) 0 l.records
