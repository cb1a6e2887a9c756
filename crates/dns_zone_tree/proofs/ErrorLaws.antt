-- Which cause a list is refused for, and what follows if it is for none.
use Rattle.std.proofs.Common.{◌≡◌, ℕ, zero, suc, ◌+◌, ◌-◌, ◌<◌, Bool, true, false, List, [], ◌∷◌, length, cond, get_or, nat_eq, Option, Some, None, Ok, Err, refl, ap, sym, subst, ◌∙◌, arith}
use Rattle.std.specs.Prelude.{◌&&◌, ◌||◌, not, nat_lt, if◌then◌else◌, option_map}
use Rattle.std.specs.List.{AllByRecursion, filter, position, position_from}
use Rattle.std.proofs.lemmas.Bool.Decides.{nat_tests}
use Rattle.std.proofs.lemmas.Iterator.Adapters.{position_from-zero}
use Rattle.dns_base.specs.Records.{IsLawful, data_type}
use Rattle.dns_message.specs.declared.record.Record.{Record}
use Rattle.dns_order.specs.Keys.{canonical_key}
use Rattle.dns_route.specs.Routes.{ends_name}
use Rattle.dns_zone.specs.ZoneIndex.{IsInZone}
use Rattle.dns_zone.specs.Owned.{AreLawful, HasLawfulData, ZoneState, is_asked, is_of, is_owned}
use Rattle.dns_zone.specs.Places.{places}
use Rattle.dns_zone.specs.ZoneErrors.{has_other_class, is_misplaced, is_outside}
use Rattle.dns_zone.proofs.PathLaws.{true_eq}
use Rattle.dns_zone.proofs.PlaceLaws.{places_count}
use Rattle.dns_zone_tree.specs.Kinds.{places_in}
use Rattle.dns_zone_tree.specs.Nodes.{Names, kinds_under}
use Rattle.dns_zone_tree.specs.declared.kinds.Kinds.{Kinds}
use Rattle.dns_zone_tree.specs.Long.{is_long}
use Rattle.dns_zone_tree.specs.Names.{KnowsNames}
use Rattle.dns_zone_tree.specs.TreeErrors.{Makes, first_cause, has_wild_servers, is_beside, is_crowded, miscounted, place_error, refused, size_error, soa_error, tree_error}
use Rattle.dns_zone_tree.specs.declared.error.TreeError.{TreeError}
use Rattle.dns_zone_tree.specs.declared.error.TreeError.TheVariants.{Outside, Class, Opt, Soa, SoaPlace, WildNs, Long, Large, Cname, OutOfMemory as NoMemory}

-- ---- causes

refused_for : (cause : Option TreeError) (e : TreeError) → Err e ≡ refused cause → cause ≡ Some e
refused_for None e h = absurd (cc)
refused_for (Some f) e h = cc

pub not_refused : (cause : Option TreeError) → Ok tt ≡ refused cause → cause ≡ None
not_refused None h = refl
not_refused (Some f) h = absurd (cc)

makes_refused : (cause : Option TreeError) (z : ZoneState) (e : TreeError) → cause ≡ Some e → Makes cause z (Err e)
makes_refused cause z (Outside i) h = h
makes_refused cause z (Class i) h = h
makes_refused cause z (Opt i) h = h
makes_refused cause z (Soa n) h = h
makes_refused cause z (SoaPlace i) h = h
makes_refused cause z (WildNs i) h = h
makes_refused cause z (Long i) h = h
makes_refused cause z Large h = h
makes_refused cause z (Cname i) h = h
makes_refused cause z NoMemory h = tt

cause_none : (o : Option TreeError) (xs : List (Option TreeError)) → first_cause (o ∷ xs) ≡ None → (o ≡ None) × (first_cause xs ≡ None)
cause_none None xs h = (refl, h)
cause_none (Some e) xs h = absurd (cc)

module _ (apex : List (List ℕ)) (rs : List Record) where
  pub refused_places : (z : ZoneState) (e : TreeError) → Err e ≡ refused (place_error apex rs) → Makes (tree_error apex rs) z (Err e)
  refused_places z e h =
      makes_refused (tree_error apex rs) z e
      (ap (λ (o : Option TreeError). first_cause (o ∷ soa_error apex rs ∷ size_error rs ∷ option_map Cname (position (is_crowded rs) rs) ∷ [])) (refused_for (place_error apex rs) e h))

  module _ (h : Ok tt ≡ refused (place_error apex rs)) where
    behind : tree_error apex rs ≡ first_cause (soa_error apex rs ∷ size_error rs ∷ option_map Cname (position (is_crowded rs) rs) ∷ [])
    behind = ap (λ (o : Option TreeError). first_cause (o ∷ soa_error apex rs ∷ size_error rs ∷ option_map Cname (position (is_crowded rs) rs) ∷ [])) (not_refused (place_error apex rs) h)

    pub refused_soa : (z : ZoneState) (e : TreeError) → Err e ≡ refused (soa_error apex rs) → Makes (tree_error apex rs) z (Err e)
    refused_soa z e g =
        makes_refused (tree_error apex rs) z e
        (behind ∙ ap (λ (o : Option TreeError). first_cause (o ∷ size_error rs ∷ option_map Cname (position (is_crowded rs) rs) ∷ [])) (refused_for (soa_error apex rs) e g))

    module _ (g : Ok tt ≡ refused (soa_error apex rs)) where
      by_size : tree_error apex rs ≡ first_cause (size_error rs ∷ option_map Cname (position (is_crowded rs) rs) ∷ [])
      by_size = behind ∙ ap (λ (o : Option TreeError). first_cause (o ∷ size_error rs ∷ option_map Cname (position (is_crowded rs) rs) ∷ [])) (not_refused (soa_error apex rs) g)

      pub refused_size : (z : ZoneState) (e : TreeError) → Makes (size_error rs) z (Err e) → Makes (tree_error apex rs) z (Err e)
      refused_size z NoMemory h2 = tt
      refused_size z (Outside i) h2 = by_size ∙ ap (λ (o : Option TreeError). first_cause (o ∷ option_map Cname (position (is_crowded rs) rs) ∷ [])) h2
      refused_size z (Class i) h2 = by_size ∙ ap (λ (o : Option TreeError). first_cause (o ∷ option_map Cname (position (is_crowded rs) rs) ∷ [])) h2
      refused_size z (Opt i) h2 = by_size ∙ ap (λ (o : Option TreeError). first_cause (o ∷ option_map Cname (position (is_crowded rs) rs) ∷ [])) h2
      refused_size z (Soa i) h2 = by_size ∙ ap (λ (o : Option TreeError). first_cause (o ∷ option_map Cname (position (is_crowded rs) rs) ∷ [])) h2
      refused_size z (SoaPlace i) h2 = by_size ∙ ap (λ (o : Option TreeError). first_cause (o ∷ option_map Cname (position (is_crowded rs) rs) ∷ [])) h2
      refused_size z (WildNs i) h2 = by_size ∙ ap (λ (o : Option TreeError). first_cause (o ∷ option_map Cname (position (is_crowded rs) rs) ∷ [])) h2
      refused_size z (Long i) h2 = by_size ∙ ap (λ (o : Option TreeError). first_cause (o ∷ option_map Cname (position (is_crowded rs) rs) ∷ [])) h2
      refused_size z Large h2 = by_size ∙ ap (λ (o : Option TreeError). first_cause (o ∷ option_map Cname (position (is_crowded rs) rs) ∷ [])) h2
      refused_size z (Cname i) h2 = by_size ∙ ap (λ (o : Option TreeError). first_cause (o ∷ option_map Cname (position (is_crowded rs) rs) ∷ [])) h2

      module _ (s : size_error rs ≡ None) where
        by_aliases : tree_error apex rs ≡ first_cause (option_map Cname (position (is_crowded rs) rs) ∷ [])
        by_aliases = by_size ∙ ap (λ (o : Option TreeError). first_cause (o ∷ option_map Cname (position (is_crowded rs) rs) ∷ [])) s

        pub refused_alias : (z : ZoneState) (i : ℕ) → Some i ≡ position (is_crowded rs) rs → Makes (tree_error apex rs) z (Err (Cname i))
        refused_alias z i e = by_aliases ∙ ap (λ (o : Option ℕ). first_cause (option_map Cname o ∷ [])) (sym e)

        pub accepted : None ≡ position (is_crowded rs) rs → tree_error apex rs ≡ None
        accepted e = by_aliases ∙ ap (λ (o : Option ℕ). first_cause (option_map Cname o ∷ [])) (sym e)

-- ---- what follows if a list isn't refused

within_step : (b : Bool) (i : ℕ) (more : Option ℕ) → cond (not b) (Some i) more ≡ None → (b ≡ true) × (more ≡ None)
within_step true i more h = (refl, h)
within_step false i more h = absurd (cc)

within_from : (apex : List (List ℕ)) (i : ℕ) (rs : List Record) → position_from (is_outside apex) i rs ≡ None → AllByRecursion (IsInZone apex) rs
within_from apex i [] h = tt
within_from apex i (r ∷ rs) h =
    let s = within_step (ends_name r.owner apex) i (position_from (is_outside apex) (i + 1) rs) h in
    (s.0, within_from apex (i + 1) rs s.1)

no_map : (f : ℕ → TreeError) (o : Option ℕ) → option_map f o ≡ None → o ≡ None
no_map f None e = refl
no_map f (Some i) e = absurd (cc)

one_counted : (n : ℕ) (b : Bool) → nat_eq n 1 ≡ b → (if b then None else Some (Soa n)) ≡ None → n ≡ 1
one_counted n true e g = true_eq n 1 e
one_counted n false e g = absurd (cc)

module _ (apex : List (List ℕ)) (rs : List Record) (h : tree_error apex rs ≡ None) where
  abbrev aliases : List (Option TreeError)
  aliases = size_error rs ∷ option_map Cname (position (is_crowded rs) rs) ∷ []

  places_fine : place_error apex rs ≡ None
  places_fine = (cause_none (place_error apex rs) (soa_error apex rs ∷ aliases) h).0

  soa_fine : soa_error apex rs ≡ None
  soa_fine = (cause_none (soa_error apex rs) aliases (cause_none (place_error apex rs) (soa_error apex rs ∷ aliases) h).1).0

  abbrev long_cause : List (Option TreeError)
  long_cause = option_map Long (position is_long rs) ∷ []

  abbrev wild_causes : List (Option TreeError)
  wild_causes = option_map WildNs (position has_wild_servers rs) ∷ long_cause

  abbrev soa_causes : List (Option TreeError)
  soa_causes = option_map SoaPlace (position (is_misplaced apex) rs) ∷ wild_causes

  behind_count : (miscounted (length (filter (is_of 6) rs)) ≡ None) × (first_cause soa_causes ≡ None)
  behind_count = cause_none (miscounted (length (filter (is_of 6) rs))) soa_causes soa_fine

  -- one SOA record
  pub one_soa : length (filter (is_of 6) rs) ≡ 1
  one_soa = let n = length (filter (is_of 6) rs) in one_counted n (nat_eq n 1) refl behind_count.0

  -- no long record
  pub none_long : position is_long rs ≡ None
  none_long =
      let a = (cause_none (option_map SoaPlace (position (is_misplaced apex) rs)) wild_causes behind_count.1).1 in
      let b = (cause_none (option_map WildNs (position has_wild_servers rs)) long_cause a).1 in
      no_map Long (position is_long rs) (cause_none (option_map Long (position is_long rs)) [] b).0

  abbrev class_causes : List (Option TreeError)
  class_causes = option_map Class (position has_other_class rs) ∷ option_map Opt (position (is_of 41) rs) ∷ []

  -- and its records are within the apex
  pub all_within : AllByRecursion (IsInZone apex) rs
  all_within =
      within_from apex 0 rs (sym (position_from-zero (is_outside apex) rs) ∙ no_map Outside (position (is_outside apex) rs) (cause_none (option_map Outside (position (is_outside apex) rs)) class_causes places_fine).0)

-- ---- owners with another record

-- RRSIG, NSEC and all others are all
apart : (k : ℕ) → nat_eq k 46 ≡ true → nat_eq k 47 ≡ true → ⊥
apart k a b = absurd (grind (arith, nat_tests))

count_step : (o a b : Bool) (r : Record) (w x y v : List Record) → (a ≡ true → b ≡ true → ⊥) → length w + length x + length y ≡ length v →
    length (cond (o && not (a || b)) (r ∷ w) w) + length (cond (o && a) (r ∷ x) x) + length (cond (o && b) (r ∷ y) y) ≡ length (cond (o && true) (r ∷ v) v)
count_step false a b r w x y v n h = h
count_step true true true r w x y v n h = absurd (n refl refl)
count_step true true false r w x y v n h = omega (arith, h)
count_step true false true r w x y v n h = omega (arith, h)
count_step true false false r w x y v n h = omega (arith, h)

counted : (name : List (List ℕ)) (rs : List Record) → length (filter (is_beside name) rs) + length (filter (is_asked name 46) rs) + length (filter (is_asked name 47) rs) ≡ length (filter (is_asked name 255) rs)
counted name [] = refl
counted name (r ∷ rs) =
    count_step (is_owned name r) (is_of 46 r) (is_of 47 r) r (filter (is_beside name) rs) (filter (is_asked name 46) rs) (filter (is_asked name 47) rs) (filter (is_asked name 255) rs) (apart (data_type r.rdata)) (counted name rs)

beside_count : (name : List (List ℕ)) (rs : List Record) → length (filter (is_beside name) rs) ≡ length (places (is_asked name 255) rs) - length (places (is_asked name 46) rs) - length (places (is_asked name 47) rs)
beside_count name rs =
    let c = counted name rs in
    let a = places_count (is_asked name 255) rs in
    let b = places_count (is_asked name 46) rs in
    let d = places_count (is_asked name 47) rs in
    omega (arith, a, b, c, d)

-- a CNAME is crowded if more places are kept for its owner than its own, and those of RRSIG and NSEC
pub crowded_by : (n : Names) (rs : List Record) (r : Record) (o : List ℕ) (found : Option Kinds) → KnowsNames n rs → o ≡ canonical_key r.owner → found ≡ kinds_under n o → is_of 5 r ≡ true →
    is_crowded rs r ≡ nat_lt 1 (length (places_in 255 found) - length (places_in 46 found) - length (places_in 47 found))
crowded_by n rs r o found k e f t =
    let at : (u : ℕ) → length (places (is_asked r.owner u) rs) ≡ length (places_in u found) = λ u. sym (ap length (ap (places_in u) (f ∙ ap (kinds_under n) e) ∙ k.kept r.owner u)) in
    ap (λ (b : Bool). b && nat_lt 1 (length (filter (is_beside r.owner) rs))) t
    ∙ ap (λ (i : ℕ). nat_lt 1 i) (beside_count r.owner rs ∙ (λ i. at 255 i - at 46 i - at 47 i))

-- ---- elements of lists

pub lawful_by : (rs : List Record) (i : ℕ) (r : Record) → AreLawful rs → i < length rs → r ≡ get_or rs i r → IsLawful r.rdata
lawful_by [] i r h l e = absurd (omega (arith, l))
lawful_by (x ∷ rs) zero r h l e = subst HasLawfulData (sym e) h.0
lawful_by (x ∷ rs) (suc i) r h l e = lawful_by rs i r h.1 (omega (arith, l)) e
