use Rattle.std.proofs.Common.{arith}
use Rattle.dns_hashed_reply.proofs.SectionLaws.{group_all, group_next}
use Rattle.dns_hashed_reply.proofs.reply.hashed_records.Goals as goal

pub each-preserved : goal.each-preserved
each-preserved c =
    group_next c.args.zone.now c.args.places.now c.each.place-index c.each.records.items c.add_group.new.into.items c.each-test.true c.each.invariant c.in_ok-add_group.ensures

pub returns : goal.returns
returns c = group_all c.args.zone.now c.args.places.now c.each.place-index c.each.records.items (omega arith) c.each.invariant
