use Rattle.dns_nsec3_data.proofs.nsec3_data.keep_one.Goals as goal

pub returns-in_ok-push-in-Some : goal.returns-in_ok-push-in-Some
returns-in_ok-push-in-Some c = (c.in-Some.nsec, rw c.in-Some.is at c.in_ok-nsec.ensures, c.in_ok-push-in-Some.ensures.items)

pub returns-in-None : goal.returns-in-None
returns-in-None c = rw c.in-None.is at c.in_ok-nsec.ensures
