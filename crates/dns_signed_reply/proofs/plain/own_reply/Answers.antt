use Rattle.std.proofs.Common.{◌≡◌, List, length, ap, ◌∙◌}
use Rattle.std.specs.Prelude.{◌==◌}
use Rattle.dns_message.specs.declared.record.Record.{Record}
use Rattle.dns_zone.specs.ZoneReply.{denied}
use Rattle.dns_zone_tree.proofs.KeptLaws.{if_ok}
use Rattle.dns_name_server.specs.Steps.{own_reply}
use Rattle.dns_signed_reply.specs.PlainReplies.{said}
use Rattle.dns_signed_reply.proofs.StepLaws.{own_is_denied, own_is_given}
use Rattle.dns_signed_reply.proofs.plain.own_reply.Goals as goal

pub returns-then-is_empty : goal.returns-then-is_empty
returns-then-is_empty c =
    let z = c.args.zone.now in
    let rs = c.args.records.items in
    let e : c.is_empty.result ≡ (length rs == 0) = c.is_empty.ensures ∙ ap (λ (l : List Record). length l == 0) c.as_slice.ensures.value in
    if_ok (λ p. said p ≡ denied z 0) (λ p. said p ≡ own_reply z rs) c.denied.result c.denied.ensures (λ p f. f ∙ own_is_denied z rs c.is_empty.result e c.if-is_empty.true)

pub returns : goal.returns
returns c =
    let z = c.args.zone.now in
    let rs = c.args.records.items in
    let e : c.is_empty.result ≡ (length rs == 0) = c.is_empty.ensures ∙ ap (λ (l : List Record). length l == 0) c.as_slice.ensures.value in
    c.authoritative.ensures ∙ own_is_given z rs c.is_empty.result e c.if-is_empty.false
