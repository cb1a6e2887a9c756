use Rattle.dns_authority.proofs.SentLaws.{transfers_are_the_records}
use Rattle.dns_authority.proofs.laws.transfers_are_the_records.Goals as goal

pub returns : goal.returns
returns g c = transfers_are_the_records
