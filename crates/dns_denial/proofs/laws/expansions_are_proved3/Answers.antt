use Rattle.dns_denial.proofs.HashLaws.{expansions3}
use Rattle.dns_denial.proofs.laws.expansions_are_proved3.Goals as goal

pub returns : goal.returns
returns c = expansions3
