use Rattle.dns_denial.proofs.HashLaws.{wildcard_no_data3}
use Rattle.dns_denial.proofs.laws.wildcard_no_data_is_proved3.Goals as goal

pub returns : goal.returns
returns c = wildcard_no_data3
