-- The closest encloser of a name, and the wildcard below it.
use Rattle.std.proofs.Common.{◌≡◌, ℕ, Bool, true, false, List, [], ◌∷◌, length, refl, sym, ◌∙◌, arith, inl, inr}
use Rattle.std.specs.Prelude.{◌&&◌, ◌⊎◌, not, if◌then◌else◌}
use Rattle.std.specs.List.{Contains, list_any}
use Rattle.std.proofs.lemmas.Bool.{true≢false, and_from, and_parts, false_from_ne_true, not-true, not_from_false}
use Rattle.dns_name.specs.Canonical.{same_name}
use Rattle.dns_message.specs.declared.record.Record.{Record}
use Rattle.dns_route.specs.Routes.{ends_name}
use Rattle.dns_zone.specs.Cuts.{is_cut_off}
use Rattle.dns_zone.specs.Owned.{ZoneState, is_of, is_owned}
use Rattle.dns_zone.specs.ZoneReply.{exists}
use Rattle.dns_zone_tree.specs.Wildcards.{encloser, star, wildcard}
use Rattle.dns_denial.specs.Chains.{is_record_at}
use Rattle.dns_denial.specs.Denials.{is_under_dname}
use Rattle.dns_denial.proofs.ChainLaws.{answered_above}
use Rattle.dns_denial.proofs.ListLaws.{found, present}
use Rattle.dns_denial.proofs.NameLaws.{ends_cons, ends_itself, ends_root, ends_short, ends_tail, ends_trans, same_back, same_ends, same_length}
use Rattle.dns_denial.proofs.StartLaws.{HasStart, wild_uncut}

module _ (z : ZoneState) (start : HasStart z) where
  pub above_encloser : (ls : List (List ℕ)) → ends_name ls (encloser z ls) ≡ true
  above_encloser [] = ends_root []
  above_encloser (l ∷ ls) = by_test (above_encloser ls) (exists z (l ∷ ls))
    where
      by_test : ends_name ls (encloser z ls) ≡ true → (b : Bool) → ends_name (l ∷ ls) (if b then l ∷ ls else encloser z ls) ≡ true
      by_test ih true = ends_itself (l ∷ ls)
      by_test ih false = ends_trans (l ∷ ls) ls (encloser z ls) (ends_tail l ls) ih

  pub apex_exists : exists z z.apex ≡ true
  apex_exists =
      let f = found (is_record_at z.apex 6) z.records start.soa in
      present (λ (r : Record). ends_name r.owner z.apex) z.records f.one f.there (same_ends f.one.owner z.apex (and_parts (is_owned z.apex f.one) (is_of 6 f.one) f.passes).0)

  pub same_exists : (a b : List (List ℕ)) → same_name a b ≡ true → exists z b ≡ true → exists z a ≡ true
  same_exists a b e h =
      let f = found (λ (r : Record). ends_name r.owner b) z.records h in
      present (λ (r : Record). ends_name r.owner a) z.records f.one f.there (ends_trans f.one.owner b a f.passes (same_ends b a (same_back a b e)))

  -- the closest encloser of a name in the zone is in the zone
  pub encloser_within : (ls : List (List ℕ)) → ends_name ls z.apex ≡ true → ends_name (encloser z ls) z.apex ≡ true
  encloser_within [] e = e
  encloser_within (l ∷ ls) e = by_test (encloser_within ls) (exists z (l ∷ ls)) refl
    where
      by_cons : (ends_name ls z.apex ≡ true → ends_name (encloser z ls) z.apex ≡ true) → exists z (l ∷ ls) ≡ false → (same_name (l ∷ ls) z.apex ≡ true) ⊎ (ends_name ls z.apex ≡ true) → ends_name (encloser z ls) z.apex ≡ true
      by_cons ih f (inl k) = absurd (true≢false (sym (same_exists (l ∷ ls) z.apex k apex_exists) ∙ f))
      by_cons ih f (inr k) = ih k

      by_test : (ends_name ls z.apex ≡ true → ends_name (encloser z ls) z.apex ≡ true) → (b : Bool) → exists z (l ∷ ls) ≡ b → ends_name (if b then l ∷ ls else encloser z ls) z.apex ≡ true
      by_test ih true f = e
      by_test ih false f = by_cons ih f (ends_cons l ls z.apex e)

  -- what a wildcard ends with and isn't, the name ends with
  pub above_name : (name s : List (List ℕ)) → ends_name (wildcard z name) s ≡ true → same_name (wildcard z name) s ≡ false → ends_name name s ≡ true
  above_name name s h o = by_cons (ends_cons star (encloser z name) s h)
    where
      by_cons : (same_name (wildcard z name) s ≡ true) ⊎ (ends_name (encloser z name) s ≡ true) → ends_name name s ≡ true
      by_cons (inl k) = absurd (true≢false (sym k ∙ o))
      by_cons (inr k) = ends_trans name (encloser z name) s (above_encloser name) k

  pub wildcard_dname : (name : List (List ℕ)) → is_under_dname z name ≡ false → exists z name ≡ false → is_under_dname z (wildcard z name) ≡ false
  wildcard_dname name a e =
      let p : List (List ℕ) → Record → Bool = λ s r. is_of 39 r && (ends_name s r.owner && not (same_name r.owner s)) in
      false_from_ne_true (is_under_dname z (wildcard z name)) (λ h.
      let f = found (p (wildcard z name)) z.records h in
      let r = f.one in
      let b = and_parts (is_of 39 r) (ends_name (wildcard z name) r.owner && not (same_name r.owner (wildcard z name))) f.passes in
      let c = and_parts (ends_name (wildcard z name) r.owner) (not (same_name r.owner (wildcard z name))) b.1 in
      let o : same_name (wildcard z name) r.owner ≡ false = false_from_ne_true (same_name (wildcard z name) r.owner) (λ k. true≢false (sym (same_back (wildcard z name) r.owner k) ∙ not-true (same_name r.owner (wildcard z name)) c.1)) in
      let g : ends_name name r.owner ≡ true = above_name name r.owner c.0 o in
      let i : same_name r.owner name ≡ false = false_from_ne_true (same_name r.owner name) (λ k. true≢false (sym (present (λ (q : Record). ends_name q.owner name) z.records r f.there (same_ends r.owner name k)) ∙ e)) in
      true≢false (sym (present (p name) z.records r f.there (and_from (is_of 39 r) (ends_name name r.owner && not (same_name r.owner name)) b.0 (and_from (ends_name name r.owner) (not (same_name r.owner name)) g (not_from_false (same_name r.owner name) i)))) ∙ a))

  pub wildcard_cut : (name : List (List ℕ)) → is_cut_off z name ≡ false → is_cut_off z (wildcard z name) ≡ false
  wildcard_cut name a = wild_uncut z start (encloser z name) (answered_above z name (encloser z name) a (above_encloser name))

  pub not_apex : (name : List (List ℕ)) → ends_name name z.apex ≡ true → same_name (wildcard z name) z.apex ≡ false
  not_apex name h = false_from_ne_true (same_name (wildcard z name) z.apex) (λ e.
      absurd (omega (arith, same_length (wildcard z name) z.apex e, ends_short (encloser z name) z.apex (encloser_within name h))))
