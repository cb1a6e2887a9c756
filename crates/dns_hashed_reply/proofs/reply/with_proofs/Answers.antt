use Rattle.std.proofs.Common.{◌≡◌, List, [], length, take, refl, ap, sym, subst, ◌∙◌, arith}
use Rattle.dns_message.specs.declared.record.Record.{Record}
use Rattle.dns_route.specs.Routes.{ends_name}
use Rattle.dns_zone.specs.Owned.{AreLawful, ZoneState}
use Rattle.dns_zone.specs.ZoneReply.{ZoneReply}
use Rattle.dns_name_server.specs.NameServerReplies.{name_server_reply}
use Rattle.dns_signed_reply.specs.PlainReplies.{AreAllLawful, said}
use Rattle.dns_signed_reply.specs.SignedReplies.{rrsigs}
use Rattle.dns_signed_reply.proofs.RoomLaws.{first_are}
use Rattle.dns_hashed_reply.specs.HashedReplies.{fails, places, proved_reply}
use Rattle.dns_hashed_reply.proofs.SectionLaws.{as_failed, as_proved, failure_lawful, proved_lawful}
use Rattle.dns_hashed_reply.proofs.reply.with_proofs.Goals as goal

pub plain_reply-requires : goal.plain_reply-requires
plain_reply-requires c = ap (λ (z : ZoneState). ends_name c.args.question.now.qname z.apex) c.zone-tree.ensures ∙ c.requires

pub in_room-requires : goal.in_room-requires
in_room-requires c = subst AreAllLawful (sym c.failed.ensures) failure_lawful

pub returns-then-found : goal.returns-then-found
returns-then-found c =
    let s = c.args.zone.now in
    let q = c.args.question.now in
    let p : said c.in_ok-plain.plain ≡ name_server_reply s.zone q = c.in_ok-plain.ensures ∙ ap (λ (z : ZoneState). name_server_reply z q) c.zone-tree.ensures in
    let a : c.as_slice.result.now ≡ (name_server_reply s.zone q).answers = c.as_slice.ensures.value ∙ ap (λ (x : ZoneReply). x.answers) p in
    as_failed s c.args.room c.args.query.now q c.in_room.result (said c.failed.result) [] c.failed.ensures refl (sym (c.in_ok-found.ensures.collides ∙ ap (fails s q) a) ∙ c.if-found.true) c.in_room.ensures

pub in_room-requires-2 : goal.in_room-requires-2
in_room-requires-2 c =
    let s = c.args.zone.now in
    let q = c.args.question.now in
    let ks = c.as_slice-2.result.now in
    let p : said c.in_ok-plain.plain ≡ name_server_reply s.zone q = c.in_ok-plain.ensures ∙ ap (λ (z : ZoneState). name_server_reply z q) c.zone-tree.ensures in
    let e : said c.in_ok-signed.signed ≡ proved_reply s ks (name_server_reply s.zone q) = c.in_ok-signed.ensures ∙ ap (proved_reply s ks) p in
    let h : AreLawful s.zone.records = subst AreLawful (c.records-lawful.ensures.value ∙ ap (λ (z : ZoneState). z.records) c.zone-tree.ensures) c.records-lawful.ensures.lawful in
    subst AreAllLawful (sym e) (proved_lawful s ks q h c.chain-chain.ensures.lawful)

pub returns : goal.returns
returns c =
    let s = c.args.zone.now in
    let q = c.args.question.now in
    let o = c.args.query.now in
    let r = name_server_reply s.zone q in
    let ks = c.as_slice-2.result.now in
    let p : said c.in_ok-plain.plain ≡ r = c.in_ok-plain.ensures ∙ ap (λ (z : ZoneState). name_server_reply z q) c.zone-tree.ensures in
    let a : c.as_slice.result.now ≡ r.answers = c.as_slice.ensures.value ∙ ap (λ (x : ZoneReply). x.answers) p in
    let f = sym (c.in_ok-found.ensures.collides ∙ ap (fails s q) a) ∙ c.if-found.false in
    let k : ks ≡ places s q r.answers = c.as_slice-2.ensures.value ∙ (c.in_ok-found.ensures.places c.if-found.false ∙ ap (places s q) a) in
    let e : said c.in_ok-signed.signed ≡ proved_reply s ks r = c.in_ok-signed.ensures ∙ ap (proved_reply s ks) p in
    let n : c.len-unsigned.result ≡ length r.additional = omega (arith, c.in_ok-plain.plain.additional.ok.0, ap (λ (x : ZoneReply). length x.additional) p) in
    let u : take c.len-unsigned.result c.in_ok-signed.signed.additional.items ≡ r.additional = first_are r.additional (rrsigs s.zone r.additional [] r.additional) c.in_ok-signed.signed.additional.items c.len-unsigned.result (ap (λ (x : ZoneReply). x.additional) e) n in
    as_proved s c.args.room o q c.in_room-2.result (said c.in_ok-signed.signed) (take c.len-unsigned.result c.in_ok-signed.signed.additional.items) ks e u k f c.in_room-2.ensures
