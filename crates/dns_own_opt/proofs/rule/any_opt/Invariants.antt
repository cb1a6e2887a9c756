use Rattle.std.proofs.Common.{◌≡◌, length}
use Rattle.dns_layers.specs.Edns.{has_opt}
use Rattle.dns_base.specs.Readers.{resources}
use Rattle.dns_own_opt.proofs.rule.any_opt.Given as goal

abbrev pub invariant-walk : goal.invariant-walk
invariant-walk l = has_opt (resources l.left) ≡ has_opt (resources l.fn.records)

abbrev pub decreases-walk : goal.decreases-walk
decreases-walk l = length l.left
