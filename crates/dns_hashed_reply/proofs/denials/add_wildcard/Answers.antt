use Rattle.std.proofs.Common.{◌≡◌, ℕ, Bool, true, false, List, [], ◌∷◌, refl, ap, sym, subst, ◌∙◌, arith}
use Rattle.std.specs.Prelude.{◌&&◌, not, is_some, Option}
use Rattle.std.specs.Option.{option_copied}
use Rattle.dns_zone.specs.Owned.{ZoneState}
use Rattle.dns_zone.specs.ZoneReply.{exists}
use Rattle.dns_zone_tree.proofs.KeptLaws.{on_ok}
use Rattle.dns_zone_tree.specs.Walks.{IsNode}
use Rattle.dns_zone_tree.specs.Wildcards.{star}
use Rattle.dns_denial.specs.Nsec3.{is_matched}
use Rattle.dns_hashed_zone.specs.Searches.{near_place}
use Rattle.dns_hashed_reply.specs.HashedReplies.{collides}
use Rattle.dns_hashed_reply.proofs.ChoiceLaws.{adds_as, adds_fails}
use Rattle.dns_hashed_reply.proofs.denials.add_wildcard.Goals as goal

pub unreachable-requires : goal.unreachable-requires
unreachable-requires c = absurd (omega (arith, rw c.in_default.is at c.in_ok-wildcard.ensures, c.requires))

pub returns-then-is_collision : goal.returns-then-is_collision
returns-then-is_collision c =
    let s = c.args.zone.now in
    let name = star ∷ c.args.above.now in
    let e : c.for_ref.result ≡ name = c.for_ref.ensures.value ∙ rw c.in-Some.is at c.in_ok-wildcard.ensures in
    let f = (subst (λ (y : ZoneState). IsNode y name (option_copied c.in_ok-there.there)) c.zone.ensures c.in_ok-there.ensures).there in
    let m : c.in_ok-near.near.matched ≡ is_matched s.hashing s.nsec3s name = c.in_ok-near.ensures.matched ∙ ap (is_matched s.hashing s.nsec3s) e in
    let k : c.is_collision.result ≡ collides s name = c.is_collision.ensures ∙ (λ i. m i && not (f i)) in
    adds_fails c.args.chosen.now _ (collides s name) (near_place s.hashing s.nsec3s name ∷ []) refl (sym k ∙ c.if-is_collision.true)

pub returns : goal.returns
returns c =
    let s = c.args.zone.now in
    let name = star ∷ c.args.above.now in
    let e : c.for_ref.result ≡ name = c.for_ref.ensures.value ∙ rw c.in-Some.is at c.in_ok-wildcard.ensures in
    let f = (subst (λ (y : ZoneState). IsNode y name (option_copied c.in_ok-there.there)) c.zone.ensures c.in_ok-there.ensures).there in
    let m : c.in_ok-near.near.matched ≡ is_matched s.hashing s.nsec3s name = c.in_ok-near.ensures.matched ∙ ap (is_matched s.hashing s.nsec3s) e in
    let k : c.is_collision.result ≡ collides s name = c.is_collision.ensures ∙ (λ i. m i && not (f i)) in
    let p : c.in_ok-near.near.place ≡ near_place s.hashing s.nsec3s name = c.in_ok-near.ensures.place ∙ ap (near_place s.hashing s.nsec3s) e in
    on_ok c.add.result c.add.ensures (adds_as c.args.chosen.now c.add.new.chosen false (collides s name) (c.in_ok-near.near.place ∷ []) (near_place s.hashing s.nsec3s name ∷ []) (sym (sym k ∙ c.if-is_collision.false)) (ap (λ (n : ℕ). n ∷ []) p))
