use Rattle.dns_denial.proofs.HashLaws.{no_data3}
use Rattle.dns_denial.proofs.laws.no_data_is_proved3.Goals as goal

pub returns : goal.returns
returns c = no_data3
