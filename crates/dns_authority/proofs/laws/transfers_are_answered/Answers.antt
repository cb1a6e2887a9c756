use Rattle.dns_authority.proofs.AnswerLaws.{transfers_are_answered}
use Rattle.dns_authority.proofs.laws.transfers_are_answered.Goals as goal

pub returns : goal.returns
returns g c = transfers_are_answered
