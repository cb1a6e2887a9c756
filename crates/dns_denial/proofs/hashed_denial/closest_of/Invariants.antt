use Rattle.std.proofs.Common.{length}
use Rattle.dns_denial.proofs.HashedChoice.{GoesUp}
use Rattle.dns_denial.proofs.hashed_denial.closest_of.Given as goal

abbrev pub invariant-labels : goal.invariant-labels
invariant-labels l = GoesUp l.hashing l.nsecs l.fn.name l.left l.next

abbrev pub decreases-labels : goal.decreases-labels
decreases-labels l = length l.left
