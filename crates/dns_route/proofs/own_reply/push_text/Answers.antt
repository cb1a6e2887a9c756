use Rattle.std.proofs.Common.{◌≡◌, ◌+◌, ◌≤◌, Some, length, ap, sym, subst, ◌∙◌}
use Rattle.dns_opt.specs.Extended.{Extended, extended, extended_octets}
use Rattle.dns_route.specs.ReplyMessage.{begun}
use Rattle.dns_route.proofs.own_reply.push_text.Goals as goal

pub push_why-requires : goal.push_why-requires
push_why-requires c =
    let e : c.in-Ok.why ≡ extended 0 (Some c.args.text.now) = c.in-Ok.ensures.1 ∙ ap (λ t. extended 0 (Some t)) c.as_bytes.ensures.value in
    subst (λ (k : Extended). length (begun c.args.reply.now.opt).options + 4 + length (extended_octets k) ≤ 65535) (sym e) c.requires.room
