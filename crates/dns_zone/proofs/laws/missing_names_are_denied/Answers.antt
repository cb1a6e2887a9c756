use Rattle.dns_zone.proofs.ReplyLaws.{denied_exactly}
use Rattle.dns_zone.proofs.laws.missing_names_are_denied.Goals as goal

pub returns : goal.returns
returns c = λ z q. denied_exactly z q
