use Rattle.dns_lookup.proofs.LawsProved.{strangers}
use Rattle.dns_lookup.proofs.laws.strangers_change_nothing.Goals as goal

pub returns : goal.returns
returns c = strangers
