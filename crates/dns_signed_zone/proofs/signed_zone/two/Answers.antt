use Rattle.dns_signed_zone.proofs.signed_zone.two.Goals as goal

pub returns-in-Some : goal.returns-in-Some
returns-in-Some c = rw c.in-Some.is at c.in_ok-denial.ensures.last

pub returns-in-None : goal.returns-in-None
returns-in-None c = rw c.in-None.is at c.in_ok-denial.ensures.last
