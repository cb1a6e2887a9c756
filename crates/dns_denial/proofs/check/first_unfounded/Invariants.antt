use Rattle.std.proofs.Common.{◌≡◌, drop}
use Rattle.std.specs.List.{position_from}
use Rattle.dns_denial.specs.Checks.{is_unfounded}
use Rattle.dns_denial.proofs.check.first_unfounded.Given as goal

abbrev pub invariant-each : goal.invariant-each
invariant-each l = position_from (is_unfounded l.zone) l.index (drop l.index l.nsecs) ≡ position_from (is_unfounded l.zone) 0 l.nsecs
