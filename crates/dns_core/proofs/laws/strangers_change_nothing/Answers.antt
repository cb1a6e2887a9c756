use Rattle.dns_core.proofs.Nothing.{nothing}
use Rattle.dns_core.proofs.laws.strangers_change_nothing.Goals as goal

pub returns : goal.returns
returns c = λ answers settings q r e w off absent. nothing answers settings q r e w off (λ there. cc)
