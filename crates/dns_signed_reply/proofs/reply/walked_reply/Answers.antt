use Rattle.std.proofs.Common.{◌≡◌, List, [], length, take, ap, sym, subst, ◌∙◌, arith}
use Rattle.dns_base.specs.Builds.{Builds, unlimited}
use Rattle.dns_message.specs.declared.record.Record.{Record}
use Rattle.dns_route.specs.Routes.{ends_name}
use Rattle.dns_zone.specs.Owned.{AreLawful, ZoneState}
use Rattle.dns_zone.specs.ZoneReply.{ZoneReply}
use Rattle.dns_zone.specs.ZoneTurns.{zone_message}
use Rattle.dns_name_server.specs.NameServerReplies.{name_server_reply}
use Rattle.dns_signed_reply.specs.PlainReplies.{AreAllLawful, said}
use Rattle.dns_signed_reply.specs.SignedReplies.{as_room, do_reply, rrsigs}
use Rattle.dns_signed_reply.proofs.LawfulLaws.{do_lawful}
use Rattle.dns_signed_reply.proofs.RoomLaws.{first_are}
use Rattle.dns_signed_reply.proofs.reply.walked_reply.Goals as goal

pub plain_reply-requires : goal.plain_reply-requires
plain_reply-requires c = ap (λ (z : ZoneState). ends_name c.args.question.now.qname z.apex) c.zone-tree.ensures ∙ c.requires.inside

pub in_room-requires : goal.in_room-requires
in_room-requires c =
    let s = c.args.zone.now in
    let q = c.args.question.now in
    let p : said c.in_ok-plain.plain ≡ name_server_reply s.zone q = c.in_ok-plain.ensures ∙ ap (λ (z : ZoneState). name_server_reply z q) c.zone-tree.ensures in
    let e : said c.in_ok-signed.signed ≡ do_reply s q (name_server_reply s.zone q) = c.in_ok-signed.ensures ∙ ap (do_reply s q) p in
    let h : AreLawful s.zone.records = subst AreLawful (c.records-lawful.ensures.value ∙ ap (λ (z : ZoneState). z.records) c.zone-tree.ensures) c.records-lawful.ensures.lawful in
    subst AreAllLawful (sym e) (do_lawful s q h)

pub returns : goal.returns
returns c =
    let s = c.args.zone.now in
    let q = c.args.question.now in
    let o = c.args.query.now in
    let r = name_server_reply s.zone q in
    let p : said c.in_ok-plain.plain ≡ r = c.in_ok-plain.ensures ∙ ap (λ (z : ZoneState). name_server_reply z q) c.zone-tree.ensures in
    let e : said c.in_ok-signed.signed ≡ do_reply s q r = c.in_ok-signed.ensures ∙ ap (do_reply s q) p in
    let n : c.len-unsigned.result ≡ length r.additional = omega (arith, c.in_ok-plain.plain.additional.ok.0, ap (λ (x : ZoneReply). length x.additional) p) in
    let u : take c.len-unsigned.result c.in_ok-signed.signed.additional.items ≡ r.additional = first_are r.additional (rrsigs s.zone r.additional [] r.additional) c.in_ok-signed.signed.additional.items c.len-unsigned.result (ap (λ (x : ZoneReply). x.additional) e) n in
    subst (λ (l : List Record). Builds (unlimited (zone_message o (as_room c.args.room o l (do_reply s q r)))) c.in_room.result) u
    (subst (λ (x : ZoneReply). Builds (unlimited (zone_message o (as_room c.args.room o (take c.len-unsigned.result c.in_ok-signed.signed.additional.items) x))) c.in_room.result) e c.in_room.ensures)
