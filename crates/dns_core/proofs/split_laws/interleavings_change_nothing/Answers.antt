use Rattle.dns_core.proofs.StepsTurned.{alike}
use Rattle.dns_core.proofs.split_laws.interleavings_change_nothing.Goals as goal

pub returns : goal.returns
returns c = λ answers settings n p q same h g. alike answers settings n p q same h g
