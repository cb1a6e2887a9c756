use Rattle.dns_core.proofs.AllAtOnce.{at_once_all}
use Rattle.dns_core.proofs.AtOnce.{at_once_sent}
use Rattle.dns_core.proofs.split_laws.looks_without_delay_change_nothing.Goals as goal

pub returns : goal.returns
returns c = record { one = at_once_sent; all = at_once_all }
