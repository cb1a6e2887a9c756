use Rattle.std.proofs.Common.{arith}
use Rattle.dns_hashed_zone.proofs.MadeLaws.{added, added_all}
use Rattle.dns_hashed_reply.proofs.reply.add_records.Goals as goal

pub each-preserved : goal.each-preserved
each-preserved c =
    added c.args.into.now.items c.args.records.now c.each.into.items c.push.new.self.items c.each.resource-index c.resource-item.result c.in_ok-copy.copy c.each-test.true c.resource-item.is c.in_ok-copy.ensures.value c.each.invariant c.in_ok-push.ensures.items

pub returns : goal.returns
returns c = added_all c.args.into.now.items c.args.records.now c.each.into.items c.each.resource-index (omega arith) c.each.invariant
