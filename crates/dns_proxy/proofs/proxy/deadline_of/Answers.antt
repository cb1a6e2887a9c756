-- A tick at a place is due when one of its query is.
use Rattle.dns_proxy.proofs.Placed.{due-none, due-some}
use Rattle.dns_proxy.proofs.proxy.deadline_of.Goals as goal

pub returns-in-Some : goal.returns-in-Some
returns-in-Some g c = λ a s. due-some g.R.Rewrite.rewriting c.args.place.now c.in-Some.query a _ c.in-Some.is c.deadline.ensures s

pub returns-in-None : goal.returns-in-None
returns-in-None g c = λ a s. due-none g.R.Rewrite.rewriting c.args.place.now a c.in-None.is s
