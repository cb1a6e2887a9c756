use Rattle.std.proofs.Common.{ap}
use Rattle.dns_core.specs.Own.{is_wide}
use Rattle.dns_core.specs.Sent.{slate}
use Rattle.dns_core.proofs.Gained.{idle_not_new}
use Rattle.dns_core.proofs.Plain.{done_idle}
use Rattle.dns_core.proofs.Nothing.{nothing}
use Rattle.dns_core.proofs.laws.finished_requests_change_nothing.Goals as goal

pub returns : goal.returns
returns c = λ answers settings q r e k is done. let idle = done_idle answers e (slate answers settings e.client q) k is done in nothing answers settings q r e (ap is_wide is) (idle_not_new answers settings q e idle) (λ there. idle)
