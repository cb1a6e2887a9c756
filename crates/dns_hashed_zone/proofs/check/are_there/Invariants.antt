use Rattle.std.proofs.Common.{◌≡◌, drop}
use Rattle.std.specs.List.{list_all}
use Rattle.dns_hashed_zone.specs.HashedChecks.{is_there3}
use Rattle.dns_hashed_zone.proofs.check.are_there.Given as goal

abbrev pub invariant-each : goal.invariant-each
invariant-each l = list_all (is_there3 l.zone l.name) (drop l.rtype-index l.types) ≡ list_all (is_there3 l.zone l.name) l.types
