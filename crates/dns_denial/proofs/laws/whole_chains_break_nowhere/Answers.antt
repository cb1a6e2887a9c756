use Rattle.dns_denial.proofs.WholeLaws.{break_nowhere}
use Rattle.dns_denial.proofs.laws.whole_chains_break_nowhere.Goals as goal

pub returns : goal.returns
returns c = break_nowhere
