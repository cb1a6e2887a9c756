use Rattle.std.proofs.Common.{◌≡◌, drop}
use Rattle.std.specs.List.{list_all}
use Rattle.dns_denial.specs.Checks.{is_there}
use Rattle.dns_denial.proofs.check.are_all_there.Given as goal

abbrev pub invariant-each : goal.invariant-each
invariant-each l = list_all (is_there l.zone l.nsec) (drop l.rtype-index l.types) ≡ list_all (is_there l.zone l.nsec) l.types
