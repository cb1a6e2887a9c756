use Rattle.std.proofs.Common.{ap}
use Rattle.dns_core.specs.Outs.{placed_slate}
use Rattle.dns_core.specs.Own.{is_wide}
use Rattle.dns_core.specs.Placed.{is_beginning}
use Rattle.dns_core.proofs.Settled.{again_idle}
use Rattle.dns_core.proofs.StepsNothing.{closed_event, idle_event}
use Rattle.dns_core.proofs.split_laws.steps_of_closed_connections_change_nothing.Goals as goal

pub returns : goal.returns
returns c = record {
  closed = λ answers settings q r e w rel p. closed_event answers settings q r e w rel p;
  again = λ answers settings q r e is freed. idle_event answers settings q r e (ap is_wide is) (ap is_beginning is) (again_idle answers e (placed_slate answers settings e.client q) is freed);
}
