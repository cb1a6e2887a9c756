use Rattle.dns_core.proofs.Late.{runs_count_as_their_last}
use Rattle.dns_core.proofs.laws.reconfigures_count_as_their_last.Goals as goal

pub returns : goal.returns
returns c = runs_count_as_their_last
