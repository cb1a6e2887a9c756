use Rattle.dns_denial.specs.Checks.{AreLinked}
use Rattle.dns_denial.proofs.check.first_unlinked.Given as goal

abbrev pub invariant-each : goal.invariant-each
invariant-each l = AreLinked l.apex l.nsecs l.place
