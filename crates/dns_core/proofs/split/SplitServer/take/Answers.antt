use Rattle.dns_core.proofs.split.SplitServer.take.Goals as goal

pub returns-in-Own : goal.returns-in-Own
returns-in-Own g c = rw c.in-Own.is c.one.ensures
