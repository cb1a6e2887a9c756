use Rattle.dns_denial.proofs.HashLaws.{insecure_delegations3}
use Rattle.dns_denial.proofs.laws.insecure_delegations_are_proved3.Goals as goal

pub returns : goal.returns
returns c = insecure_delegations3
