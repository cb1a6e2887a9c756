use Rattle.dns_denial.proofs.HashLaws.{opted_out_delegations3}
use Rattle.dns_denial.proofs.laws.opted_out_delegations_are_proved3.Goals as goal

pub returns : goal.returns
returns c = opted_out_delegations3
