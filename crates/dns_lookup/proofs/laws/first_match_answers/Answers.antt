use Rattle.dns_lookup.proofs.LawsProved.{first}
use Rattle.dns_lookup.proofs.laws.first_match_answers.Goals as goal

pub returns : goal.returns
returns c = first
