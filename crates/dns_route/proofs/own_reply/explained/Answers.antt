use Rattle.std.proofs.Common.{Some, refl}
use Rattle.dns_opt.specs.Extended.{extended}
use Rattle.dns_route.proofs.OwnLaws.{text_fits}
use Rattle.dns_route.proofs.own_reply.explained.Goals as goal

pub push_text-requires-clause-room : goal.push_text-requires-clause-room
push_text-requires-clause-room c = text_fits c.args.query.now c.args.text.now c.in_ok-reply.reply (extended 0 (Some c.args.text.now)) c.in_ok-reply.ensures refl c.requires
