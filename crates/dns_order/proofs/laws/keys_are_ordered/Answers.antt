use Rattle.dns_order.proofs.KeyLaws.{keys_are_ordered}
use Rattle.dns_order.proofs.laws.keys_are_ordered.Goals as goal

pub returns : goal.returns
returns c = keys_are_ordered
