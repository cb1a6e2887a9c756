use Rattle.dns_core.proofs.ByClient.{alike}
use Rattle.dns_core.proofs.laws.others_change_nothing.Goals as goal

pub returns : goal.returns
returns c = λ answers settings c es fs same e f. alike answers settings c es fs same e f
