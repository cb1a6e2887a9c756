use Rattle.std.proofs.Common.{◌≡◌, length}
use Rattle.dns_opt.specs.OptRecords.{first_opt}
use Rattle.dns_opt.proofs.message_opt.first_opt.Given as goal

abbrev pub invariant-walk : goal.invariant-walk
invariant-walk l = first_opt l.left ≡ first_opt l.fn.records

abbrev pub decreases-walk : goal.decreases-walk
decreases-walk l = length l.left
