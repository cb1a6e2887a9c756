use Rattle.dns_denial.proofs.SignedLaws.{signing_adds}
use Rattle.dns_denial.proofs.laws.signing_adds.Goals as goal

pub returns : goal.returns
returns c = signing_adds
