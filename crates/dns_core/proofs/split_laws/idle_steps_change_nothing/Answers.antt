use Rattle.std.proofs.Common.{ap}
use Rattle.dns_core.specs.Outs.{placed_slate}
use Rattle.dns_core.specs.Own.{is_wide}
use Rattle.dns_core.specs.Placed.{is_beginning}
use Rattle.dns_core.proofs.Plain.{done_idle}
use Rattle.dns_core.proofs.Settled.{empty_idle}
use Rattle.dns_core.proofs.StepsNothing.{idle_event, placed_settled}
use Rattle.dns_core.proofs.split_laws.idle_steps_change_nothing.Goals as goal

pub returns : goal.returns
returns c = record {
  turn = λ answers settings q r e k is done. idle_event answers settings q r e (ap is_wide is) (ap is_beginning is) (done_idle answers e (placed_slate answers settings e.client q) k is done);
  piece = λ answers settings q r e is. idle_event answers settings q r e (ap is_wide is) (ap is_beginning is) (empty_idle answers e (placed_slate answers settings e.client q) is (placed_settled answers settings e.client q));
}
