use Rattle.std.proofs.Common.{◌≡◌, drop}
use Rattle.std.specs.List.{position_from}
use Rattle.dns_denial.specs.Checks.{StandsAt, is_unlisted}
use Rattle.dns_denial.proofs.check.first_unlisted.Given as goal

abbrev pub invariant-each : goal.invariant-each
invariant-each l = record {
  found : position_from (is_unlisted l.zone l.nsecs) l.index (drop l.index l.records) ≡ position_from (is_unlisted l.zone l.nsecs) 0 l.records;
  stands : StandsAt l.zone l.owner l.standing;
}
