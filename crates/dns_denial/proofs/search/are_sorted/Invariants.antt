use Rattle.dns_denial.proofs.SearchLaws.{SortedBelow}
use Rattle.dns_denial.proofs.search.are_sorted.Given as goal

abbrev pub invariant-each : goal.invariant-each
invariant-each l = SortedBelow l.nsecs l.place
