-- If no hash collides, the names that a name ends with have hashes of their own.
use Rattle.std.proofs.Common.{◌≡◌, ℕ, Bool, true, false, List, [], ◌∷◌, refl, ap, sym, subst, ◌∙◌, arith, inl, inr}
use Rattle.std.specs.Prelude.{◌&&◌, ◌||◌, ◌⊎◌, not}
use Rattle.std.specs.List.{Contains, list_any}
use Rattle.std.specs.Str.{bytes_eq}
use Rattle.std.proofs.lemmas.Bool.{true≢false, cases_Bool, false_from_ne_true, not-true}
use Rattle.dns_name.specs.Canonical.{same_name}
use Rattle.dns_message.specs.declared.record.Record.{Record}
use Rattle.dns_route.specs.Routes.{ends_name}
use Rattle.dns_zone.specs.Owned.{ZoneState}
use Rattle.dns_zone.specs.ZoneReply.{exists}
use Rattle.dns_denial.specs.Nsec3.{AreApart, Hashing, IsApart, Nsec3State, is_matched, provable}
use Rattle.dns_denial.proofs.ListLaws.{found, present}
use Rattle.dns_denial.proofs.NameLaws.{ends_cons, ends_trans, same_ends}
use Rattle.dns_denial.proofs.ProvableLaws.{provable_cons, provable_here, same_hashes}

-- a name that another one ends with exists, if that does
pub exists_up : (z : ZoneState) (a t : List (List ℕ)) → exists z a ≡ true → ends_name a t ≡ true → exists z t ≡ true
exists_up z a t e k =
    let f = found (λ (r : Record). ends_name r.owner a) z.records e in
    present (λ (r : Record). ends_name r.owner t) z.records f.one f.there (ends_trans f.one.owner a t f.passes k)

module _ (h : Hashing) (ns : List Nsec3State) where
  as_same : (a b : List (List ℕ)) → same_name a b ≡ true → is_matched h ns b ≡ true → is_matched h ns a ≡ true
  as_same a b e k = ap (λ (o : List ℕ). list_any (λ (n : Nsec3State). bytes_eq n.hash o) ns) (same_hashes h a b e) ∙ k

  -- each name with an NSEC3 that a name ends with is at its closest provable encloser or above it
  pub above_provable : (name t : List (List ℕ)) → ends_name name t ≡ true → is_matched h ns t ≡ true → ends_name (provable h ns name) t ≡ true
  above_provable [] t e k = e
  above_provable (l ∷ ls) t e k = by_match (cases_Bool (is_matched h ns (l ∷ ls))) (above_provable ls t)
    where
      by_cons : is_matched h ns (l ∷ ls) ≡ false → (ends_name ls t ≡ true → is_matched h ns t ≡ true → ends_name (provable h ns ls) t ≡ true) → (same_name (l ∷ ls) t ≡ true) ⊎ (ends_name ls t ≡ true) → ends_name (provable h ns ls) t ≡ true
      by_cons n ih (inl s) = absurd (true≢false (sym (as_same (l ∷ ls) t s k) ∙ n))
      by_cons n ih (inr s) = ih s k

      by_match : (is_matched h ns (l ∷ ls) ≡ true) ⊎ (is_matched h ns (l ∷ ls) ≡ false) → (ends_name ls t ≡ true → is_matched h ns t ≡ true → ends_name (provable h ns ls) t ≡ true) → ends_name (provable h ns (l ∷ ls)) t ≡ true
      by_match (inl m) ih = ap (λ (x : List (List ℕ)). ends_name x t) (provable_here h ns (l ∷ ls) m) ∙ e
      by_match (inr m) ih = ap (λ (x : List (List ℕ)). ends_name x t) (provable_cons h ns l ls m) ∙ by_cons m ih (ends_cons l ls t e)

  module _ (z : ZoneState) where
    -- so they have hashes of their own, where the closest provable encloser exists
    pub apart_by : (name : List (List ℕ)) → exists z (provable h ns name) ≡ true → AreApart z h ns name
    apart_by name e t k m = exists_up z (provable h ns name) t e (above_provable name t k m)

    -- or the name itself
    pub apart_there : (name : List (List ℕ)) → exists z name ≡ true → AreApart z h ns name
    apart_there name e t k m = exists_up z name t e k

-- a name without a collision exists, if it has an NSEC3
pub no_collision : (a b : Bool) → (a && not b) ≡ false → a ≡ true → b ≡ true
no_collision true true h e = refl
no_collision true false h e = absurd (true≢false h)
no_collision false b h e = absurd (true≢false (sym e))
