use Rattle.dns_core.proofs.Bounded.{always_bounded, bound_kept, bound_taken}
use Rattle.dns_core.proofs.laws.queues_keep_their_bound.Goals as goal

pub returns : goal.returns
returns c = record { within = always_bounded; taken = bound_taken; kept = bound_kept }
