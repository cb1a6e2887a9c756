use Rattle.dns_denial.proofs.HashSearch.{SortedBelow3}
use Rattle.dns_denial.proofs.nsec3.are_sorted.Given as goal

abbrev pub invariant-each : goal.invariant-each
invariant-each l = SortedBelow3 l.nsecs l.place
