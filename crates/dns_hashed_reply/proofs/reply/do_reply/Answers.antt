use Rattle.dns_hashed_reply.proofs.SectionLaws.{proved_is}
use Rattle.dns_hashed_reply.proofs.reply.do_reply.Goals as goal

pub returns : goal.returns
returns c =
    proved_is c.args.zone.now c.args.places.now c.args.plain c.zone-tree.result.now c.in_ok-answers.answers.items c.in_ok-authority.authority.items c.in_ok-additional.additional.items c.zone-tree.ensures c.in_ok-answers.ensures c.in_ok-authority.ensures c.in_ok-additional.ensures
