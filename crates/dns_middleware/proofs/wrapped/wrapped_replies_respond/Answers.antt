use Rattle.dns_middleware.proofs.ReplyLaws.{replies_respond}
use Rattle.dns_middleware.proofs.wrapped.wrapped_replies_respond.Goals as goal

pub returns : goal.returns
returns c = replies_respond
