use Rattle.std.proofs.Common.{ap}
use Rattle.dns_core.specs.Placed.{is_beginning}
use Rattle.dns_core.proofs.StepsNothing.{used_beginning}
use Rattle.dns_core.proofs.split_laws.steps_of_used_numbers_change_nothing.Goals as goal

pub returns : goal.returns
returns c = record {
  datagram = λ answers settings q r e addr o is u. used_beginning answers settings q r e (ap is_beginning is) u;
  offer = λ answers settings q r e addr is u. used_beginning answers settings q r e (ap is_beginning is) u;
}
