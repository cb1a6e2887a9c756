use Rattle.std.proofs.Common.{arith}
use Rattle.dns_hashed_reply.proofs.ChoiceLaws.{target_all, target_next, target_start}
use Rattle.dns_hashed_reply.proofs.denials.add_targets.Goals as goal

pub each-init : goal.each-init
each-init c = target_start c.args.zone.now c.args.rtype c.args.answers.now c.args.chosen.now

pub each-preserved : goal.each-preserved
each-preserved c =
    target_next c.args.zone.now c.args.rtype c.args.answers.now c.each.alias-index c.alias-item.result c.args.chosen.now c.each.chosen c.add_target.new.chosen c.each-test.true c.alias-item.is c.each.invariant c.in_ok-add_target.ensures

pub returns : goal.returns
returns c = target_all c.args.zone.now c.args.rtype c.args.answers.now c.each.alias-index c.args.chosen.now c.each.chosen (omega arith) c.each.invariant
