use Rattle.std.proofs.Common.{ap}
use Rattle.dns_core.specs.Out.{is_unused}
use Rattle.dns_core.specs.Sent.{slate}
use Rattle.dns_core.proofs.Plain.{closed_idle}
use Rattle.dns_core.proofs.Gained.{used_not_new}
use Rattle.dns_core.proofs.Nothing.{nothing}
use Rattle.dns_core.proofs.laws.closed_connections_change_nothing.Goals as goal

pub returns : goal.returns
returns c = λ answers settings q r e w rel p. nothing answers settings q r e w (used_not_new answers settings q e (ap is_unused p)) (λ there. closed_idle answers e (slate answers settings e.client q) w rel p)
