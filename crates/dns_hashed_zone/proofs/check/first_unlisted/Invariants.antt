use Rattle.dns_hashed_zone.proofs.RecordLaws.{Goes}
use Rattle.dns_hashed_zone.proofs.check.first_unlisted.Given as goal

abbrev pub invariant-each : goal.invariant-each
invariant-each l = Goes l.zone l.hashing l.nsecs l.records l.index l.met
