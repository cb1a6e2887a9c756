use Rattle.dns_base.specs.Replaced.{records_at, behind_records}
use Rattle.dns_base.proofs.Sieved.{Counting}
use Rattle.dns_base.proofs.replace.count_others.Given as goal

abbrev pub invariant-records : goal.invariant-records
invariant-records l = Counting l.message l.rtype (records_at l.message l.count l.start) (behind_records l.message l.count l.start) l.at l.left l.kept l.size

abbrev pub decreases-records : goal.decreases-records
decreases-records l = l.left
