use Rattle.std.proofs.Common.{Ok, subst, sym}
use Rattle.dns_base.specs.Wire.{wire}
use Rattle.dns_route.specs.ReplyMessage.{Composes, ReplyState, reply_message}
use Rattle.dns_route.proofs.reply.ReplyMessage.from_typed.Goals as goal

pub invariant_of-result : goal.invariant_of-result
invariant_of-result c =
    let p = sym c.in_ok-opt.ensures in
    subst (λ (s : ReplyState). Composes (reply_message s) (Ok c.args.built)) (λ i. record { octets = wire c.args.built.message; opt = p i }) c.requires
