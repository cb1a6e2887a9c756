-- Each item of the closure is the stated one.
use Rattle.dns_service.proofs.function.ServiceFn.item.Goals as goal

pub returns : goal.returns
returns g c = c.requires.1 _ _ _ _ c.closure.ensures
