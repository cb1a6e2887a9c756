use Rattle.std.proofs.Common.{◌≡◌, ℕ, ◌≤◌, ◌<◌, true, false, List, [], ◌∷◌, ◌++◌, length, drop, refl, ap, sym, subst, ◌∙◌, arith}
use Rattle.std.specs.Prelude.{◌||◌}
use Rattle.std.specs.Option.{option_copied}
use Rattle.dns_name.specs.Labels.{spell}
use Rattle.dns_zone.specs.Owned.{ZoneState}
use Rattle.dns_zone_tree.proofs.KeptLaws.{on_ok}
use Rattle.dns_zone_tree.specs.Walks.{IsNode}
use Rattle.dns_zone_tree.specs.Wildcards.{star, wildcard}
use Rattle.dns_denial.specs.Accepted.{is_given}
use Rattle.dns_denial.specs.Nsec3.{IsWhole3, Nsec3State}
use Rattle.dns_signed_reply.proofs.NearLaws.{wild_given}
use Rattle.dns_hashed_zone.specs.Searches.{near_place}
use Rattle.dns_hashed_reply.specs.HashedReplies.{collides, encloser_of, fails_at, places_of}
use Rattle.dns_hashed_reply.proofs.ChoiceLaws.{adds_fails, adds_then, for_one}
use Rattle.dns_hashed_reply.proofs.MissingLaws.{denied_fine, denied_places, given_fine, given_places, long_fails, not_longer, own_fails, room_for, some_matched}
use Rattle.dns_hashed_reply.proofs.denials.add_missing.Goals as goal

pub returns-in-Own : goal.returns-in-Own
returns-in-Own c =
    let s = c.args.zone.now in
    let t = c.args.rtype in
    let name = c.args.name.now in
    let w = subst (λ (ns : List Nsec3State). IsWhole3 s.zone s.hashing ns) c.chain-chain.ensures.value c.chain-chain.ensures.whole in
    let f = rw c.in-Own.is at c.in_ok-found.ensures in
    for_one s t c.args.chosen.now _ name (fails_at s t name) (places_of s t name) refl refl
    (adds_fails c.args.chosen.now _ (fails_at s t name) (places_of s t name) refl (own_fails s t name w c.requires.inside c.args.skipped c.requires.reached f.0))

pub returns-then-is_longer : goal.returns-then-is_longer
returns-then-is_longer c =
    let s = c.args.zone.now in
    let t = c.args.rtype in
    let name = c.args.name.now in
    let w = subst (λ (ns : List Nsec3State). IsWhole3 s.zone s.hashing ns) c.chain-chain.ensures.value c.chain-chain.ensures.whole in
    let f = rw c.in-Missing.is at c.in_ok-found.ensures in
    let l : length (drop c.args.skipped name) < length (encloser_of s name) = omega (arith, c.is_longer.ensures.0 c.if-is_longer.true, ap length f.1, ap length c.behind-closest.ensures) in
    for_one s t c.args.chosen.now _ name (fails_at s t name) (places_of s t name) refl refl
    (adds_fails c.args.chosen.now _ (fails_at s t name) (places_of s t name) refl (long_fails s t name w c.requires.inside c.args.skipped c.requires.reached l))

pub returns-then-gives : goal.returns-then-gives
returns-then-gives c =
    let s = c.args.zone.now in
    let t = c.args.rtype in
    let name = c.args.name.now in
    let w = subst (λ (ns : List Nsec3State). IsWhole3 s.zone s.hashing ns) c.chain-chain.ensures.value c.chain-chain.ensures.whole in
    let f = rw c.in-Missing.is at c.in_ok-found.ensures in
    let m : length c.in-Missing.above ≤ length c.behind-closest.result = not_longer c.is_longer.result (length c.behind-closest.result) (length c.in-Missing.above) c.if-is_longer.false c.is_longer.ensures.1 in
    let l : length (encloser_of s name) ≤ length (drop c.args.skipped name) = omega (arith, m, ap length f.1, ap length c.behind-closest.ensures) in
    let e : star ∷ c.behind-closest.result ≡ wildcard s.zone name = ap (λ (x : List (List ℕ)). star ∷ x) (c.behind-closest.ensures ∙ sym c.requires.reached.encloser_) in
    let n = subst (λ (x : List (List ℕ)). IsNode s.zone x (option_copied c.in_ok-wild-in-Missing.wild)) e (subst (λ (y : ZoneState). IsNode y (star ∷ c.behind-closest.result) (option_copied c.in_ok-wild-in-Missing.wild)) c.zone.ensures c.in_ok-wild-in-Missing.ensures) in
    let g : c.gives.result ≡ is_given s.zone t name = c.gives.ensures ∙ wild_given s.zone t name c.args.skipped c.requires.reached (option_copied c.in_ok-wild-in-Missing.wild) n in
    on_ok c.add.result c.add.ensures (for_one s t c.args.chosen.now c.add.new.chosen name false (c.in-Missing.next ∷ []) (given_fine s t name w c.requires.inside c.args.skipped c.requires.reached l c.gives.result g c.if-gives.true)
    (given_places s t name w c.requires.inside c.args.skipped c.requires.reached c.gives.result c.in-Missing.next g c.if-gives.true f.3))

pub add_wildcard-requires : goal.add_wildcard-requires
add_wildcard-requires c =
    let s = c.args.zone.now in
    let t = c.args.rtype in
    let name = c.args.name.now in
    let w = subst (λ (ns : List Nsec3State). IsWhole3 s.zone s.hashing ns) c.chain-chain.ensures.value c.chain-chain.ensures.whole in
    let f = rw c.in-Missing.is at c.in_ok-found.ensures in
    let k = some_matched s t name w c.requires.inside c.args.skipped c.requires.reached in
    omega (arith, ap (λ (x : List (List ℕ)). length (spell x)) f.1, room_for s.hashing s.nsec3s name c.as_slice-named.ensures.named f.0 k)

pub returns-in_ok-add_both-in-Missing : goal.returns-in_ok-add_both-in-Missing
returns-in_ok-add_both-in-Missing c =
    let s = c.args.zone.now in
    let t = c.args.rtype in
    let name = c.args.name.now in
    let w = subst (λ (ns : List Nsec3State). IsWhole3 s.zone s.hashing ns) c.chain-chain.ensures.value c.chain-chain.ensures.whole in
    let f = rw c.in-Missing.is at c.in_ok-found.ensures in
    let m : length c.in-Missing.above ≤ length c.behind-closest.result = not_longer c.is_longer.result (length c.behind-closest.result) (length c.in-Missing.above) c.if-is_longer.false c.is_longer.ensures.1 in
    let l : length (encloser_of s name) ≤ length (drop c.args.skipped name) = omega (arith, m, ap length f.1, ap length c.behind-closest.ensures) in
    let e : star ∷ c.behind-closest.result ≡ wildcard s.zone name = ap (λ (x : List (List ℕ)). star ∷ x) (c.behind-closest.ensures ∙ sym c.requires.reached.encloser_) in
    let n = subst (λ (x : List (List ℕ)). IsNode s.zone x (option_copied c.in_ok-wild-in-Missing.wild)) e (subst (λ (y : ZoneState). IsNode y (star ∷ c.behind-closest.result) (option_copied c.in_ok-wild-in-Missing.wild)) c.zone.ensures c.in_ok-wild-in-Missing.ensures) in
    let g : c.gives.result ≡ is_given s.zone t name = c.gives.ensures ∙ wild_given s.zone t name c.args.skipped c.requires.reached (option_copied c.in_ok-wild-in-Missing.wild) n in
    let x = c.in-Missing.encloser in
    let y = c.in-Missing.next in
    let above = c.in-Missing.above in
    let last = near_place s.hashing s.nsec3s (star ∷ above) in
    on_ok c.add_wildcard.result c.add_wildcard.ensures (λ h. for_one s t c.args.chosen.now c.add_wildcard.new.chosen name (false || collides s (star ∷ above)) ((x ∷ y ∷ []) ++ (last ∷ []))
    (ap (λ (a : List (List ℕ)). collides s (star ∷ a)) f.1 ∙ denied_fine s t name w c.requires.inside c.args.skipped c.requires.reached l c.gives.result g c.if-gives.false)
    (denied_places s t name w c.requires.inside c.args.skipped c.requires.reached c.gives.result x y above g c.if-gives.false f.1 f.2 f.3)
    (adds_then c.args.chosen.now c.add_both.new.chosen c.add_wildcard.new.chosen false (collides s (star ∷ above)) (x ∷ y ∷ []) (last ∷ []) c.in_ok-add_both-in-Missing.ensures h))
