use Rattle.std.proofs.Common.{◌≡◌, ◌≤◌, ℕ, List, Result, Some, Ok, length, ap, subst, sym, ◌∙◌}
use Rattle.std.specs.List.{AllByRecursion}
use Rattle.dns_name.specs.declared.error.ParseError.{ParseError}
use Rattle.dns_base.specs.Built.{Built}
use Rattle.dns_base.specs.Msg.{IsMessage, Msg}
use Rattle.dns_message.specs.declared.record.Record.{Record}
use Rattle.dns_route.specs.OwnReplies.{kept_whole}
use Rattle.dns_route.specs.ReplyMessage.{reply_message}
use Rattle.dns_zone.specs.Owned.{HasTypedData}
use Rattle.dns_zone.proofs.zone.Zone.answer_to.Goals as goal

pub asks_zone-requires : goal.asks_zone-requires
asks_zone-requires c = cc (c.as_slice.ensures.value, c.in_ok-path.ensures, c.labels.ensures.value, c.qname.ensures)

pub reply_at-requires-clause-path : goal.reply_at-requires-clause-path
reply_at-requires-clause-path c = cc (c.in_ok-path.ensures, c.labels.ensures.value, c.qname.ensures)

pub from_typed-requires : goal.from_typed-requires
from_typed-requires c =
    let typed = subst (λ (rs : List Record). AllByRecursion HasTypedData rs) c.records-records.ensures.value c.records-records.ensures.typed in
    let e = c.in_ok-built.ensures.0 in
    let m = ap (λ (b : Built). b.message) e in
    let law = c.zone_replies_are_built.ensures c.args.self.now c.args.query.now c.args.question.now typed (subst IsMessage m c.as_slice-octets.ensures.lawful) in (
      subst (λ (x : Msg). reply_message (kept_whole x) ≡ Ok x) (sym m) law,
      ap (λ (b : Built). b.limit) e,
      subst (λ (l : List ℕ). length l ≤ 65535) c.as_slice-octets.ensures.value c.as_slice-octets.ensures.short,
    )

pub returns-clause-built : goal.returns-clause-built
returns-clause-built c =
    let typed = subst (λ (rs : List Record). AllByRecursion HasTypedData rs) c.records-records.ensures.value c.records-records.ensures.typed in
    let m = ap (λ (b : Built). b.message) c.in_ok-built.ensures.0 in
    ap (λ (r : Result Msg ParseError). Some r)
    (ap reply_message (c.in_ok-reply.ensures ∙ ap (λ (n : Msg). kept_whole n) m)
    ∙ c.zone_replies_are_built.ensures c.args.self.now c.args.query.now c.args.question.now typed (subst IsMessage m c.as_slice-octets.ensures.lawful))
