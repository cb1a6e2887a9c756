use Rattle.dns_core.proofs.StepsNothing.{nothing}
use Rattle.dns_core.proofs.split_laws.steps_of_strangers_change_nothing.Goals as goal

pub returns : goal.returns
returns c = λ answers settings q r e w off absent. nothing answers settings q r e w off (λ there. cc)
