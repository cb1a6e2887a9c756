use Rattle.dns_hashed_reply.proofs.AddLaws3.{nothing_without_do3}
use Rattle.dns_hashed_reply.proofs.laws.nothing_without_do3.Goals as goal

pub returns : goal.returns
returns c = nothing_without_do3
