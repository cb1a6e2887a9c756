use Rattle.std.proofs.Common.{arith}
use Rattle.dns_signed_reply.proofs.NearLaws.{target_all, target_next}
use Rattle.dns_signed_reply.proofs.denials.deny_targets.Goals as goal

pub each-preserved : goal.each-preserved
each-preserved c =
    target_next c.args.zone.now c.args.rtype c.args.answers.now c.each.alias-index c.alias-item.result c.args.into.now.items c.each.into.items c.deny_target.new.into.items c.each-test.true c.alias-item.is c.each.invariant c.in_ok-deny_target.ensures

pub returns : goal.returns
returns c = target_all c.args.zone.now c.args.rtype c.args.answers.now c.each.alias-index c.args.into.now.items c.each.into.items (omega arith) c.each.invariant
