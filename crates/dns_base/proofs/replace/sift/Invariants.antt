use Rattle.dns_base.specs.Replaced.{behind_records}
use Rattle.dns_base.proofs.Sieved.{Sieving, sieved}
use Rattle.dns_base.proofs.replace.sift.Given as goal

abbrev pub invariant-records : goal.invariant-records
invariant-records l = Sieving l.fn.message l.message l.fn.rtype (behind_records l.fn.message l.fn.count l.fn.start) (sieved l.fn.message l.fn.rtype l.fn.count l.fn.start) l.fn.start l.at l.put l.left

abbrev pub decreases-records : goal.decreases-records
decreases-records l = l.left
