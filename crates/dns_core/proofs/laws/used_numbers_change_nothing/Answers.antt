use Rattle.std.proofs.Common.{ap}
use Rattle.dns_core.specs.Own.{is_wide}
use Rattle.dns_core.specs.Sent.{slate}
use Rattle.dns_core.proofs.Gained.{used_not_new}
use Rattle.dns_core.proofs.Plain.{used_datagram, used_offer}
use Rattle.dns_core.proofs.Nothing.{nothing}
use Rattle.dns_core.proofs.laws.used_numbers_change_nothing.Goals as goal

pub returns : goal.returns
returns c = record {
  datagram = λ answers settings q r e addr o is u. nothing answers settings q r e (ap is_wide is) (used_not_new answers settings q e u) (λ there. used_datagram answers e addr o (slate answers settings e.client q) is u);
  offer = λ answers settings q r e addr is u. nothing answers settings q r e (ap is_wide is) (used_not_new answers settings q e u) (λ there. used_offer answers e addr (slate answers settings e.client q) is u);
}
