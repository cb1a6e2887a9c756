use Rattle.std.proofs.Common.{length}
use Rattle.dns_hashed_zone.proofs.PlaceLaws.{GoesUp}
use Rattle.dns_hashed_zone.proofs.search.found.Given as goal

abbrev pub invariant-labels : goal.invariant-labels
invariant-labels l = GoesUp l.hashing l.nsecs l.fn.name l.left l.next

abbrev pub decreases-labels : goal.decreases-labels
decreases-labels l = length l.left
