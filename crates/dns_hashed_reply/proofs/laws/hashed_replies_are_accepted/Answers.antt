use Rattle.dns_hashed_reply.proofs.ChosenLaws.{hashed_replies_are_accepted}
use Rattle.dns_hashed_reply.proofs.laws.hashed_replies_are_accepted.Goals as goal

pub returns : goal.returns
returns c = hashed_replies_are_accepted
