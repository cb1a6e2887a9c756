-- What a walk to a name says of the name's records.
use Rattle.std.proofs.Common.{◌≡◌, ℕ, suc, ◌<◌, Bool, true, false, List, [], ◌∷◌, length, nat_eq, None, refl, ap, sym, ◌∙◌, arith, inl, inr}
use Rattle.std.specs.Prelude.{◌==◌, ◌≢◌, ◌&&◌, ◌||◌, ◌⊎◌, not, if◌then◌else◌, MatchBool}
use Rattle.std.specs.Cmp.{both_ways}
use Rattle.std.specs.List.{Contains, list_any}
use Rattle.std.proofs.lemmas.Bool.{true≢false, and_from, and_parts, cases_Bool, false_from_ne_true, not-true, not_from_false}
use Rattle.std.proofs.lemmas.Bool.Decides.{nat_tests}
use Rattle.dns_name.specs.Canonical.{same_name}
use Rattle.dns_message.specs.declared.record.Record.{Record}
use Rattle.dns_route.specs.Routes.{ends_name}
use Rattle.dns_zone.specs.Cuts.{delegates, is_cut_off}
use Rattle.dns_zone.specs.Owned.{ZoneState, is_asked, is_of, is_owned}
use Rattle.dns_zone.specs.Places.{places_from}
use Rattle.dns_zone_tree.specs.Kinds.{kind_places}
use Rattle.dns_zone_tree.specs.Regions.{BelowCut, Within, asked_region}
use Rattle.dns_zone_tree.specs.TreeErrors.{tree_error}
use Rattle.dns_zone_tree.specs.Walks.{ReachesNode}
use Rattle.dns_zone_tree.specs.declared.kinds.Kinds.{Kinds}
use Rattle.dns_denial.specs.Chains.{has_type, is_below_cut, is_record_at, must_have}
use Rattle.dns_denial.specs.Checks.{IsHeld, StandsAt, is_kept, is_placed}
use Rattle.dns_denial.specs.declared.standing.Standing.{Standing}
use Rattle.dns_denial.specs.declared.standing.Standing.TheVariants.{Held, BelowCut as BelowACut, Unknown}
use Rattle.dns_denial.proofs.ChainLaws.{cut_of}
use Rattle.dns_denial.proofs.ListLaws.{found, present}
use Rattle.dns_denial.proofs.NameLaws.{same_back, same_ends, same_trans}
use Rattle.dns_denial.proofs.RegionLaws.{asked_below, reached}
use Rattle.dns_denial.proofs.SameLaws.{below_as}
use Rattle.dns_denial.proofs.StartLaws.{starts}

-- ---- what a walk ends at

pub at_node : (z : ZoneState) (name : List (List ℕ)) (m : Kinds) → tree_error z.apex z.records ≡ None → ReachesNode z 43 name m → IsHeld z name m
at_node z name m e r = record { uncut = (reached z (starts z e) 43 name r.region).first; kept = r.kept }

pub at_cut : (z : ZoneState) (name : List (List ℕ)) (rs : List Record) → tree_error z.apex z.records ≡ None → asked_region z 43 name ≡ BelowCut rs → is_below_cut z name ≡ true
at_cut z name rs e r = asked_below z (starts z e) name rs r

-- ---- places and records

one_more : (i n : ℕ) → not (suc n == 0) ≡ true
one_more i n = grind (arith, nat_tests)

place_step : (b c : Bool) (i : ℕ) (js : List ℕ) → not (length js == 0) ≡ c → not (length (if b then i ∷ js else js) == 0) ≡ (b || c)
place_step true c i js h = one_more i (length js)
place_step false c i js h = h

none_left : not (0 == 0) ≡ false
none_left = grind (arith, nat_tests)

some_by : (js : List ℕ) (b : Bool) → MatchBool b (0 < length js) (js ≡ []) → b ≡ not (length js == 0)
some_by [] true h = absurd (omega (arith, h))
some_by [] false h = sym none_left
some_by (j ∷ js) true h = sym (one_more j (length js))
some_by (j ∷ js) false h = absurd (cc)

-- there is a place of a type
pub placed_by : (t : ℕ) (m : Kinds) (b : Bool) → MatchBool b (0 < length (kind_places t m)) (kind_places t m ≡ []) → b ≡ is_placed t m
placed_by t m b h = some_by (kind_places t m) b h

-- there is a place if a record passes
some_places : (p : Record → Bool) (i : ℕ) (rs : List Record) → not (length (places_from p i rs) == 0) ≡ list_any p rs
some_places p i [] = none_left
some_places p i (r ∷ rs) = place_step (p r) (list_any p rs) i (places_from p (suc i) rs) (some_places p (suc i) rs)

any_agree : (p q : Record → Bool) → ((r : Record) → p r ≡ q r) → (rs : List Record) → list_any p rs ≡ list_any q rs
any_agree p q e [] = refl
any_agree p q e (r ∷ rs) = λ i. e r i || any_agree p q e rs i

module _ (z : ZoneState) (name : List (List ℕ)) (m : Kinds) (h : IsHeld z name m) where
  pub held_some : (t : ℕ) → is_placed t m ≡ list_any (is_asked name t) z.records
  held_some t = ap (λ (js : List ℕ). not (length js == 0)) (h.kept t) ∙ some_places (is_asked name t) 0 z.records

  and_true : (b : Bool) → (b && true) ≡ b
  and_true true = refl
  and_true false = refl

  pub held_must : is_placed 255 m ≡ must_have z name
  held_must =
      held_some 255
      ∙ (any_agree (is_asked name 255) (is_owned name) (λ r. and_true (is_owned name r)) z.records
      ∙ (sym (and_true (list_any (is_owned name) z.records)) ∙ ap (λ (b : Bool). list_any (is_owned name) z.records && b) (sym (not_from_false (is_below_cut z name) h.uncut))))

  exact : (t : ℕ) → t ≢ 255 → nat_eq t 255 ≡ false
  exact t n = grind (arith, nat_tests)

  pub held_type : (t : ℕ) → t ≢ 255 → is_placed t m ≡ list_any (is_record_at name t) z.records
  held_type t n = held_some t ∙ any_agree (is_asked name t) (is_record_at name t) (λ r. ap (λ (b : Bool). is_owned name r && (b || is_of t r)) (exact t n)) z.records

  -- such a name is cut off if it is a delegation point
  pub held_cut : is_cut_off z name ≡ (list_any (is_record_at name 2) z.records && not (same_name name z.apex))
  held_cut = both_ways (is_cut_off z name) (list_any (is_record_at name 2) z.records && not (same_name name z.apex)) there back
    where
      there : is_cut_off z name ≡ true → (list_any (is_record_at name 2) z.records && not (same_name name z.apex)) ≡ true
      there k =
          let f = found (delegates z name) z.records k in
          let c = cut_of z name f.one f.passes in
          let s : same_name f.one.owner name ≡ true = by_name f.one f.there f.passes (cases_Bool (same_name f.one.owner name)) in
          and_from (list_any (is_record_at name 2) z.records) (not (same_name name z.apex))
          (present (is_record_at name 2) z.records f.one f.there (and_from (is_owned name f.one) (is_of 2 f.one) s c.servers))
          (not_from_false (same_name name z.apex) (false_from_ne_true (same_name name z.apex) (λ e. true≢false (sym (same_trans f.one.owner name z.apex s e) ∙ c.inner))))
        where
          by_name : (r : Record) → Contains z.records r → delegates z name r ≡ true → (same_name r.owner name ≡ true) ⊎ (same_name r.owner name ≡ false) → same_name r.owner name ≡ true
          by_name r c d (inl e) = e
          by_name r c d (inr e) = absurd (true≢false (sym (present (λ (s : Record). delegates z name s && not (same_name s.owner name)) z.records r c (and_from (delegates z name r) (not (same_name r.owner name)) d (not_from_false (same_name r.owner name) e))) ∙ h.uncut))

      back : (list_any (is_record_at name 2) z.records && not (same_name name z.apex)) ≡ true → is_cut_off z name ≡ true
      back k =
          let p = and_parts (list_any (is_record_at name 2) z.records) (not (same_name name z.apex)) k in
          let f = found (is_record_at name 2) z.records p.0 in
          let q = and_parts (is_owned name f.one) (is_of 2 f.one) f.passes in
          let o : same_name f.one.owner z.apex ≡ false = false_from_ne_true (same_name f.one.owner z.apex) (λ e. true≢false (sym (same_trans name f.one.owner z.apex (same_back f.one.owner name q.0) e) ∙ not-true (same_name name z.apex) p.1)) in
          present (delegates z name) z.records f.one f.there
          (and_from (is_of 2 f.one) (ends_name name f.one.owner && not (same_name f.one.owner z.apex)) q.1
          (and_from (ends_name name f.one.owner) (not (same_name f.one.owner z.apex)) (same_ends name f.one.owner (same_back f.one.owner name q.0)) (not_from_false (same_name f.one.owner z.apex) o)))

  other : (t : ℕ) → t ≡ 2 → t ≢ 255
  other t e = λ k. omega (arith, e, k)

  -- what places say is so
  pub held_has : (t : ℕ) → t ≢ 255 → is_kept z name t m ≡ has_type z name t
  held_has t n =
      let c : (is_placed 2 m && not (same_name name z.apex)) ≡ is_cut_off z name = ap (λ (b : Bool). b && not (same_name name z.apex)) (held_type 2 (other 2 refl)) ∙ sym held_cut in
      λ i. held_type t n i && (not (c i) || (nat_eq t 2 || nat_eq t 43))

-- ---- the same name stands as it does

module _ (z : ZoneState) (a b : List (List ℕ)) (e : same_name a b ≡ true) where
  owned_same : (r : Record) → is_owned a r ≡ is_owned b r
  owned_same r = both_ways (same_name r.owner a) (same_name r.owner b) (λ k. same_trans r.owner a b k e) (λ k. same_trans r.owner b a k (same_back a b e))

  asked_same : (t : ℕ) (r : Record) → is_asked a t r ≡ is_asked b t r
  asked_same t r = ap (λ (o : Bool). o && (nat_eq t 255 || is_of t r)) (owned_same r)

  below_same : is_below_cut z a ≡ is_below_cut z b
  below_same = both_ways (is_below_cut z a) (is_below_cut z b) (below_as z a b e) (below_as z b a (same_back a b e))

places_agree : (p q : Record → Bool) → ((r : Record) → p r ≡ q r) → (i : ℕ) (rs : List Record) → places_from p i rs ≡ places_from q i rs
places_agree p q e i [] = refl
places_agree p q e i (r ∷ rs) = λ k. if e r k then i ∷ places_agree p q e (suc i) rs k else places_agree p q e (suc i) rs k

pub stands_as : (z : ZoneState) (a b : List (List ℕ)) (s : Standing) → same_name a b ≡ true → StandsAt z a s → StandsAt z b s
stands_as z a b (Held m) e h = record {
  uncut = sym (below_same z a b e) ∙ h.uncut;
  kept = λ t. h.kept t ∙ places_agree (is_asked a t) (is_asked b t) (asked_same z a b e t) 0 z.records;
}
stands_as z a b BelowACut e h = sym (below_same z a b e) ∙ h
stands_as z a b Unknown e h = tt
