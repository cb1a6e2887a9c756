use Rattle.std.proofs.Common.{◌≡◌, ℕ, true, List, refl, sym, subst, ◌∙◌}
use Rattle.dns_route.specs.Routes.{ends_name}
use Rattle.dns_zone.specs.Owned.{ZoneState}
use Rattle.dns_zone_tree.specs.Walks.{EndsAt}
use Rattle.dns_zone_tree.specs.declared.walk.Walk.{Walk}
use Rattle.dns_signed_reply.specs.DirectReplies.{IsAbsent}
use Rattle.dns_signed_reply.proofs.reply.with_signatures.Goals as goal

pub walk-requires : goal.walk-requires
walk-requires c =
    let n = c.for_ref-name.ensures.value ∙ (c.in_ok-copy.ensures ∙ c.qname.ensures) in
    (λ i. ends_name (n i) (c.zone-tree.ensures i).apex) ∙ c.requires

-- what the walk ended at
ends : (y z : ZoneState) (t u : ℕ) (name given : List (List ℕ)) (found : Walk) → EndsAt y t name found → y ≡ z → t ≡ u → name ≡ given → EndsAt z u given found
ends y z t u name given found h e f g =
    subst (λ (x : ZoneState). EndsAt x u given found) e (subst (λ (v : ℕ). EndsAt y v given found) f (subst (λ (n : List (List ℕ)). EndsAt y t n found) g h))

pub direct_reply-requires : goal.direct_reply-requires
direct_reply-requires c = c.is_direct.ensures c.if-is_direct.true

pub returns-then-is_direct : goal.returns-then-is_direct
returns-then-is_direct c =
    let s = c.args.zone.now in
    let q = c.args.question.now in
    let t = c.to_int-rtype.ensures.value ∙ c.qtype.ensures in
    let n = c.for_ref-name.ensures.value ∙ (c.in_ok-copy.ensures ∙ c.qname.ensures) in
    let w = ends c.zone-tree.result.now s.zone c.to_int-rtype.result c.to_int-rtype.result c.for_ref-name.result q.qname c.in_ok-found.found c.in_ok-found.ensures c.zone-tree.ensures refl n in
    c.direct_reply.ensures q c.args.room (sym t) c.requires (subst (EndsAt s.zone c.to_int-rtype.result q.qname) c.in-Node.is w)

pub absent_reply-requires : goal.absent_reply-requires
absent_reply-requires c =
    let s = c.args.zone.now in
    let n = c.for_ref-name.ensures.value ∙ (c.in_ok-copy.ensures ∙ c.qname.ensures) in
    record {
      inside = subst (λ (x : List (List ℕ)). ends_name x s.zone.apex ≡ true) (sym n) c.requires;
      absent = subst (λ (z : ZoneState). IsAbsent z c.to_int-rtype.result c.for_ref-name.result) c.zone-tree.ensures (c.in_ok-absent.ensures c.to_int-rtype.result c.in_ok-found.ensures c.if-absent.true);
    }

pub returns-then-absent : goal.returns-then-absent
returns-then-absent c =
    let t = c.to_int-rtype.ensures.value ∙ c.qtype.ensures in
    let n = c.for_ref-name.ensures.value ∙ (c.in_ok-copy.ensures ∙ c.qname.ensures) in
    c.absent_reply.ensures c.args.question.now c.args.room (sym t) (sym n)

pub walked_reply-requires : goal.walked_reply-requires
walked_reply-requires c =
    let s = c.args.zone.now in
    let q = c.args.question.now in
    let t = c.to_int-rtype.ensures.value ∙ c.qtype.ensures in
    let n = c.for_ref-name.ensures.value ∙ (c.in_ok-copy.ensures ∙ c.qname.ensures) in
    record {
      inside = c.requires;
      named = n;
      ends = ends c.zone-tree.result.now s.zone c.to_int-rtype.result q.qtype c.for_ref-name.result c.for_ref-name.result c.in_ok-found.found c.in_ok-found.ensures c.zone-tree.ensures t refl;
    }
