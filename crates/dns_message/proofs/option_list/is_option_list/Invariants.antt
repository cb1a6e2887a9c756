use Rattle.std.proofs.Common.{◌≡◌, length}
use Rattle.std.specs.Prelude.{is_some}
use Rattle.dns_message.specs.Options.{options}
use Rattle.dns_message.proofs.option_list.is_option_list.Given as goal

abbrev pub invariant-walk : goal.invariant-walk
invariant-walk l = is_some (options l.rest) ≡ is_some (options l.fn.octets)

abbrev pub decreases-walk : goal.decreases-walk
decreases-walk l = length l.rest
