use Rattle.dns_denial.proofs.HashLaws.{name_errors3}
use Rattle.dns_denial.proofs.laws.name_errors_are_proved3.Goals as goal

pub returns : goal.returns
returns c = name_errors3
