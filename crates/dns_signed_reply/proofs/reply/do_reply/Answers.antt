use Rattle.dns_signed_reply.proofs.RoomLaws.{signed_is}
use Rattle.dns_signed_reply.proofs.reply.do_reply.Goals as goal

pub returns : goal.returns
returns c =
    signed_is c.args.zone.now c.args.question.now c.args.plain c.zone-tree.result.now c.as_slice.result.now c.in_ok-proved.proved.items c.in_ok-answers.answers.items c.in_ok-authority.authority.items c.in_ok-additional.additional.items c.zone-tree.ensures c.as_slice.ensures.value c.in_ok-proved.ensures c.in_ok-answers.ensures c.in_ok-authority.ensures c.in_ok-additional.ensures
