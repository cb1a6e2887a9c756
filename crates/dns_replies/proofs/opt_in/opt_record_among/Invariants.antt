use Rattle.std.proofs.Common.{◌≡◌, length}
use Rattle.dns_opt.specs.OptRecords.{opt_record_among}
use Rattle.dns_base.specs.Readers.{resources}
use Rattle.dns_replies.proofs.opt_in.opt_record_among.Given as goal

abbrev pub invariant-walk : goal.invariant-walk
invariant-walk l = opt_record_among (resources l.left) ≡ opt_record_among (resources l.fn.records)

abbrev pub decreases-walk : goal.decreases-walk
decreases-walk l = length l.left
