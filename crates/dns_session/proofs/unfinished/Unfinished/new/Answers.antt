use Rattle.std.proofs.Common.{refl}
use Rattle.dns_session.proofs.Rows.{nothing, nothing_in_order}
use Rattle.dns_session.proofs.unfinished.Unfinished.new.Goals as goal

pub returns-clause-nothing : goal.returns-clause-nothing
returns-clause-nothing g c = λ k. nothing _ k refl c.new.ensures.items

pub returns-clause-in_order : goal.returns-clause-in_order
returns-clause-in_order g c = nothing_in_order _ refl c.new.ensures.items c.new-2.ensures.empty
