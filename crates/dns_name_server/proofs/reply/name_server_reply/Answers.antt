use Rattle.std.proofs.Common.{subst}
use Rattle.dns_base.specs.Builds.{Builds, unlimited}
use Rattle.dns_name_server.specs.Steps.{WireReply, wire_message}
use Rattle.dns_name_server.proofs.reply.name_server_reply.Goals as goal

pub returns : goal.returns
returns c = subst (λ (w : WireReply). Builds (unlimited (wire_message c.args.query.now w)) c.composed.result) c.in_ok-end.ensures c.composed.ensures
