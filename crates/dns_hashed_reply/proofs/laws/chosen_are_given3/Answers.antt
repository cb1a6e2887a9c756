use Rattle.dns_hashed_reply.proofs.GivenLaws3.{chosen_are_given3}
use Rattle.dns_hashed_reply.proofs.laws.chosen_are_given3.Goals as goal

pub returns : goal.returns
returns c = chosen_are_given3
