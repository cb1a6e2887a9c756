use Rattle.std.proofs.Common.{rules}
use Rattle.dns_accepts.proofs.BroughtLaws.{brought_caller, brought_nobody, brought_fault}
use Rattle.dns_accepts.proofs.acceptor.Acceptor.accept_once.Goals as goal

pub returns-in-Accepted-clause-brought : goal.returns-in-Accepted-clause-brought
returns-in-Accepted-clause-brought g c = brought_caller _ _ _ _ _ _ _ _ _ _ _ _ _ _ c.in-Accepted.ensures.moves c.in-Accepted.ensures.cause c.take_connection.ensures.asked

pub returns-in-Again-clause-brought : goal.returns-in-Again-clause-brought
returns-in-Again-clause-brought g c = brought_nobody _ _ _ _ _ _ _ _ _ _ _ c.in-Again.ensures.moves c.in-Again.ensures.cause (search rules)

pub returns-in-Failed-clause-brought : goal.returns-in-Failed-clause-brought
returns-in-Failed-clause-brought g c = brought_fault _ _ _ _ _ _ _ _ _ _ _ c.in-Failed.ensures.moves c.in-Failed.ensures.cause (search rules)
