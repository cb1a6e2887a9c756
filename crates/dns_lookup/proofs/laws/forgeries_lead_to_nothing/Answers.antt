use Rattle.dns_lookup.proofs.LawsProved.{forgeries}
use Rattle.dns_lookup.proofs.laws.forgeries_lead_to_nothing.Goals as goal

pub returns : goal.returns
returns c = forgeries
