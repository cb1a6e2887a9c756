use Rattle.std.proofs.Common.{◌≡◌, ℕ, List, ◌++◌, map, ap, sym, subst, ◌∙◌}
use Rattle.std.specs.List.{AllByRecursion}
use Rattle.std.proofs.lemmas.List.{map-append}
use Rattle.dns_base.specs.Builds.{Builds, unlimited}
use Rattle.dns_base.specs.Msg.{ResourceRecord}
use Rattle.dns_base.specs.Records.{record_of}
use Rattle.dns_zone.specs.Owned.{ZoneState}
use Rattle.dns_zone.specs.Places.{at_places}
use Rattle.dns_zone.specs.ZoneReply.{ZoneReply, authoritative}
use Rattle.dns_zone.specs.ZoneTurns.{zone_message}
use Rattle.dns_zone_tree.specs.Kinds.{kind_places}
use Rattle.dns_zone_tree.specs.Walks.{ReachesNode}
use Rattle.dns_denial.specs.Chains.{IsWhole}
use Rattle.dns_denial.specs.Nsecs.{NsecState}
use Rattle.dns_signed_reply.specs.DirectReplies.{IsDirect, first_covering, head_rrsigs}
use Rattle.dns_signed_reply.specs.PlainReplies.{said}
use Rattle.dns_signed_reply.proofs.AbsentLaws.{by_first}
use Rattle.dns_signed_reply.proofs.DirectLaws.{IsOwn, direct_is, own_given}
use Rattle.dns_signed_reply.proofs.RoomLaws.{built_of}
use Rattle.dns_signed_reply.proofs.direct.direct_reply.Goals as goal

pub returns : goal.returns
returns c = λ q room e w h.
    let s = c.args.zone.now in
    let z = s.zone in
    let m = c.args.kinds.now in
    let t = c.args.rtype in
    let o = c.args.query.now in
    let rs = at_places z.records (kind_places t m) in
    let n : c.write_kind.new.into ≡ map record_of rs =
    c.in_ok-write_kind.ensures
    ∙ (ap (λ (l : List ResourceRecord). l ++ map record_of (at_places c.zone-tree.result.now.records (kind_places t m))) c.new-answers.ensures
    ∙ ap (λ (y : ZoneState). map record_of (at_places y.records (kind_places t m))) c.zone-tree.ensures) in
    let whole = subst (λ (ns : List NsecState). IsWhole z ns) c.chain-whole.ensures.value c.chain-whole.ensures.whole in
    let hq = subst (λ (u : ℕ). ReachesNode z u q.qname m) (sym e) h in
    let own = subst (λ (u : ℕ). AllByRecursion (IsOwn q.qname u) (at_places z.records (kind_places u m))) e (own_given s q m hq (subst (λ (u : ℕ). IsDirect u m) (sym e) c.requires)) in
    let sigs = at_places z.records (kind_places 46 m) in
    let g : first_covering (at_places c.zone-tree.result.now.records (kind_places t m)) (at_places c.zone-tree.result.now.records (kind_places 46 m)) ≡ head_rrsigs z rs =
    ap (λ (y : ZoneState). first_covering (at_places y.records (kind_places t m)) (at_places y.records (kind_places 46 m))) c.zone-tree.ensures ∙ by_first z s.nsecs whole q.qname t m w h t rs own in
    let a : c.write_kind_rrsigs.new.into ≡ map record_of (rs ++ head_rrsigs z rs) =
    c.in_ok-write_kind_rrsigs.ensures ∙ ((λ i. n i ++ map record_of (g i)) ∙ sym (map-append record_of rs (head_rrsigs z rs))) in
    let p : ZoneReply → ZoneReply = λ x. record x { answers = rs ++ head_rrsigs z rs } in
    let b = built_of o (p (said c.authoritative-reply.result)) c.write_kind_rrsigs.new.into c.new-none.result c.new-none.result c.built.result a
    (c.new-none.ensures ∙ sym (ap (λ (x : ZoneReply). map record_of x.authority) c.authoritative-reply.ensures)) (c.new-none.ensures ∙ sym (ap (λ (x : ZoneReply). map record_of x.additional) c.authoritative-reply.ensures)) c.built.ensures in
    let k : p (said c.authoritative-reply.result) ≡ authoritative (rs ++ head_rrsigs z rs) = ap p c.authoritative-reply.ensures in
    subst (λ (x : ZoneReply). Builds (unlimited (zone_message o x)) c.built.result)
    (k ∙ (sym (ap (λ (u : ℕ). authoritative (at_places z.records (kind_places u m) ++ head_rrsigs z (at_places z.records (kind_places u m)))) e)
    ∙ direct_is s q m (subst (λ (u : ℕ). ReachesNode z u q.qname m) (sym e) h) (subst (λ (u : ℕ). IsDirect u m) (sym e) c.requires) o room w)) b
