use Rattle.std.proofs.Common.{Ok, subst, sym}
use Rattle.dns_base.specs.Built.{Built}
use Rattle.dns_route.specs.ReplyMessage.{Composes, reply_message}
use Rattle.dns_route.proofs.reply.ReplyMessageComposeReply.additional_builder_stream_target.Goals as goal

pub returns-in-Ok : goal.returns-in-Ok
returns-in-Ok c = subst (λ (b : Built). Composes (reply_message c.args.self.now) (Ok b)) (sym c.in-Ok.ensures) c.in-Some.ensures
