use Rattle.dns_order.proofs.BeginLaws.{keys_begin_above}
use Rattle.dns_order.proofs.laws.keys_begin_above.Goals as goal

pub returns : goal.returns
returns c = keys_begin_above
