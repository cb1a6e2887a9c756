use Rattle.std.proofs.Common.{refl}
use Rattle.dns_signed_zone.proofs.signed_zone.one.Goals as goal

pub returns-in-Some : goal.returns-in-Some
returns-in-Some c = (rw c.in-Some.is at c.in_ok-nsec.ensures.last, refl)

pub returns-in-None : goal.returns-in-None
returns-in-None c = rw c.in-None.is at c.in_ok-nsec.ensures.last
