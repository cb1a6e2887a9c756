use Rattle.dns_hashed_reply.proofs.AddLaws3.{signing_adds_only3}
use Rattle.dns_hashed_reply.proofs.laws.signing_adds_only3.Goals as goal

pub returns : goal.returns
returns c = signing_adds_only3
