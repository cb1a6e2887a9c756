use Rattle.dns_zone_tree.proofs.KindLaws.{at_false, at_true}
use Rattle.dns_name_server.proofs.StepLaws.{own_found, own_none}
use Rattle.dns_name_server.proofs.step.own_end.Goals as goal

pub returns-then-has : goal.returns-then-has
returns-then-has c = λ z name h. own_found z c.args.rtype name c.args.kinds.now h (at_true _ _ c.has.result c.has.ensures c.if-has.true)

pub returns : goal.returns
returns c = λ z name h. own_none z c.args.rtype name c.args.kinds.now h (at_false _ _ c.has.result c.has.ensures c.if-has.false)
