use Rattle.dns_hashed_zone.specs.HashedChecks.{AreLinked3}
use Rattle.dns_hashed_zone.proofs.check.first_unlinked.Given as goal

abbrev pub invariant-each : goal.invariant-each
invariant-each l = AreLinked3 l.nsecs l.place
