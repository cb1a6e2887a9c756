use Rattle.dns_core.proofs.StepsHeld.{book_counts}
use Rattle.dns_core.proofs.split_laws.slots_are_counted.Goals as goal

pub returns : goal.returns
returns c = book_counts
