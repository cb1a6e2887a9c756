-- The way down from the apex, label by label, and the closest encloser of a name that doesn't exist.
use Rattle.std.proofs.Common.{◌≡◌, ℕ, zero, suc, ◌+◌, ◌-◌, ◌≤◌, ◌<◌, Bool, true, false, List, [], ◌∷◌, length, drop, nat_eq, nat_le, Option, refl, ap, sym, subst, ◌∙◌, arith}
use Rattle.std.specs.Prelude.{◌&&◌, ◌||◌, not, map, if◌then◌else◌, is_some}
use Rattle.std.specs.List.{AllByRecursion, filter, list_any}
use Rattle.dns_name.specs.Canonical.{same_name, same_name_equiv}
use Rattle.dns_message.specs.declared.record.Record.{Record}
use Rattle.dns_order.specs.Keys.{canonical_key}
use Rattle.dns_route.specs.Routes.{ends_name}
use Rattle.dns_zone.specs.ZoneIndex.{IsInZone}
use Rattle.dns_zone.specs.Owned.{ZoneState, asked_records, is_asked, is_of, is_owned}
use Rattle.dns_zone.specs.ZoneReply.{exists, negative_soa}
use Rattle.dns_zone.proofs.KeepLaws.{any_weaker}
use Rattle.dns_zone.proofs.PathLaws.{begins_of, first_true, same_length}
use Rattle.dns_zone.proofs.PlaceLaws.{no_records}
use Rattle.dns_zone_tree.specs.Kinds.{places_in}
use Rattle.dns_zone_tree.specs.Nodes.{Names, kinds_under}
use Rattle.dns_zone_tree.specs.declared.kinds.Kinds.{Kinds}
use Rattle.dns_zone_tree.specs.Names.{KnowsNames}
use Rattle.dns_zone_tree.specs.Regions.{Region, Within, BelowCut, BelowDname, asked_region, down, is_cut, region}
use Rattle.dns_zone_tree.specs.Walks.{IsNode, ReachesNone}
use Rattle.dns_zone_tree.specs.Wildcards.{are_some, encloser}
use Rattle.dns_zone_tree.proofs.NameLaws.{ends_self, ends_shorter}

-- ---- tests

pub false_by : (b : Bool) → (b ≡ true → ⊥) → b ≡ false
false_by true h = absurd (h refl)
false_by false h = refl

not_false : (b : Bool) → b ≡ false → not b ≡ true
not_false true h = absurd (cc)
not_false false h = refl

pub true_false : true ≡ false → ⊥
true_false h = absurd (cc)

-- if no element passes a test, none passes a stronger one
pub any_false : {X : Type 0} (p q : X → Bool) → ((x : X) → p x ≡ true → q x ≡ true) → (xs : List X) → list_any q xs ≡ false → list_any p xs ≡ false
any_false p q w xs h = false_by (list_any p xs) (λ t. true_false (sym (any_weaker p q w xs t) ∙ h))

-- ---- names that don't exist

module _ (z : ZoneState) where
  -- own no records
  pub none_asked : (name : List (List ℕ)) (t : ℕ) → exists z name ≡ false → asked_records z name t ≡ []
  none_asked name t h =
      no_records (is_asked name t) z.records
      (any_false (is_asked name t) (λ (r : Record). ends_name r.owner name) (λ r e. ends_self r.owner name (first_true (is_owned name r) _ e)) z.records h)

  -- and names below them don't exist
  pub none_below : (l : List ℕ) (ls : List (List ℕ)) → exists z ls ≡ false → exists z (l ∷ ls) ≡ false
  none_below l ls h = any_false (λ (r : Record). ends_name r.owner (l ∷ ls)) (λ (r : Record). ends_name r.owner ls) (λ r e. ends_shorter r.owner l ls e) z.records h

-- ---- names that are the same

module _ (z : ZoneState) (a b : List (List ℕ)) (same : same_name a b ≡ true) where
  owned_same : (r : Record) → same_name r.owner a ≡ same_name r.owner b
  owned_same r = same_name_equiv.symm r.owner a ∙ (same_name_equiv.congr a b r.owner same ∙ same_name_equiv.symm b r.owner)

  pub asked_same : (t : ℕ) (r : Record) → is_asked a t r ≡ is_asked b t r
  asked_same t r = ap (λ (x : Bool). x && (nat_eq t 255 || is_of t r)) (owned_same r)

  drop_same : (o : List (List ℕ)) (i : ℕ) → same_name (drop i o) a ≡ same_name (drop i o) b
  drop_same o i = same_name_equiv.symm (drop i o) a ∙ (same_name_equiv.congr a b (drop i o) same ∙ same_name_equiv.symm b (drop i o))

  ends_same : (o : List (List ℕ)) → ends_name o a ≡ ends_name o b
  ends_same o =
      let n : length a ≡ length b = same_length a b same in
      ap (λ (x : Bool). nat_le (length a) (length o) && x) (drop_same o (length o - length a)) ∙ ap (λ (k : ℕ). nat_le k (length o) && same_name (drop (length o - k) o) b) n

  pub exists_same : exists z b ≡ true → exists z a ≡ true
  exists_same h = any_weaker (λ (r : Record). ends_name r.owner b) (λ (r : Record). ends_name r.owner a) (λ r e. ends_same r.owner ∙ e) z.records h

-- ---- the apex

module _ (z : ZoneState) (within : AllByRecursion (IsInZone z.apex) z.records) where
  short_one : (name : List (List ℕ)) (t : ℕ) (r : Record) → length name < length z.apex → ends_name r.owner z.apex ≡ true → is_asked name t r ≡ false
  short_one name t r h w = false_by (is_asked name t r) (λ e.
      let n : length r.owner ≡ length name = same_length r.owner name (first_true (is_owned name r) _ e) in
      let s : length z.apex ≤ length r.owner = (begins_of r.owner z.apex w).short in
      omega (arith, n, s, h))

  short_any : (name : List (List ℕ)) (t : ℕ) (rs : List Record) → length name < length z.apex → AllByRecursion (IsInZone z.apex) rs → list_any (is_asked name t) rs ≡ false
  short_any name t [] h w = refl
  short_any name t (r ∷ rs) h w = ap (λ (b : Bool). b || list_any (is_asked name t) rs) (short_one name t r h w.0) ∙ short_any name t rs h w.1

  -- names above it own nothing
  short_asked : (name : List (List ℕ)) (t : ℕ) → length name < length z.apex → asked_records z name t ≡ []
  short_asked name t h = no_records (is_asked name t) z.records (short_any name t z.records h within)

  not_cut : (name : List (List ℕ)) → asked_records z name 2 ≡ [] → is_cut z name ≡ false
  not_cut name e = ap (λ (rs : List Record). are_some rs && not (same_name name z.apex)) e

  and_false : (c : Bool) → (c && false) ≡ false
  and_false true = refl
  and_false false = refl

  -- one label further down, if nothing ends there
  pub down_within : (c : Bool) (name parent : List (List ℕ)) (r : Region) → r ≡ Within → asked_records z parent 39 ≡ [] → (c && is_cut z name) ≡ false → down z c name parent r ≡ Within
  down_within c name parent r e d k =
      ap (down z c name parent) e
      ∙ (ap (λ (rs : List Record). if are_some rs then BelowDname rs else (if c && is_cut z name then BelowCut (asked_records z name 2) else Within)) d
      ∙ ap (λ (b : Bool). if b then BelowCut (asked_records z name 2) else Within) k)

  region_above : (name : List (List ℕ)) → length name < length z.apex → region z name ≡ Within
  region_above [] h = refl
  region_above (l ∷ ls) h =
      down_within true (l ∷ ls) ls (region z ls) (region_above ls (omega (arith, h))) (short_asked ls 39 (omega (arith, h))) (not_cut (l ∷ ls) (short_asked (l ∷ ls) 2 h))

  same_cut : (name : List (List ℕ)) → same_name name z.apex ≡ true → is_cut z name ≡ false
  same_cut name h = ap (λ (b : Bool). are_some (asked_records z name 2) && not b) h ∙ and_false (are_some (asked_records z name 2))

  pub region_apex : (name : List (List ℕ)) → same_name name z.apex ≡ true → region z name ≡ Within
  region_apex [] h = refl
  region_apex (l ∷ ls) h =
      let n : length (l ∷ ls) ≡ length z.apex = same_length (l ∷ ls) z.apex h in
      down_within true (l ∷ ls) ls (region z ls) (region_above ls (omega (arith, n))) (short_asked ls 39 (omega (arith, n))) (same_cut (l ∷ ls) h)

-- a zone with a record has an apex that exists
pub apex_exists : (z : ZoneState) (n : Record) → AllByRecursion (IsInZone z.apex) z.records → map negative_soa (filter (is_of 6) z.records) ≡ n ∷ [] → exists z z.apex ≡ true
apex_exists z n w h = by_records z.records w h
  where
    by_records : (rs : List Record) → AllByRecursion (IsInZone z.apex) rs → map negative_soa (filter (is_of 6) rs) ≡ n ∷ [] → list_any (λ (r : Record). ends_name r.owner z.apex) rs ≡ true
    by_records [] w h = absurd (cc)
    by_records (r ∷ rs) w h = ap (λ (b : Bool). b || list_any (λ (x : Record). ends_name x.owner z.apex) rs) w.0

-- ---- names below one at which authority ends

module _ (z : ZoneState) (l : List ℕ) (ls : List (List ℕ)) (r : Region) (stays : (c : Bool) (name parent : List (List ℕ)) → down z c name parent r ≡ r) (here : region z (l ∷ ls) ≡ r) where
  region_stays : (k : ℕ) (name : List (List ℕ)) → drop k name ≡ l ∷ ls → region z name ≡ r
  region_stays zero name e = ap (region z) e ∙ here
  region_stays (suc k) [] e = absurd (cc)
  region_stays (suc k) (x ∷ xs) e = ap (down z true (x ∷ xs) xs) (region_stays k xs e) ∙ stays true (x ∷ xs) xs

  pub asked_stays : (t k : ℕ) (name : List (List ℕ)) → drop k name ≡ l ∷ ls → (k ≡ 0 → asked_region z t (l ∷ ls) ≡ r) → asked_region z t name ≡ r
  asked_stays t zero name e own = ap (asked_region z t) e ∙ own refl
  asked_stays t (suc k) [] e own = absurd (cc)
  asked_stays t (suc k) (x ∷ xs) e own = ap (down z (not (nat_eq t 43)) (x ∷ xs) xs) (region_stays k xs e) ∙ stays (not (nat_eq t 43)) (x ∷ xs) xs

-- ---- names below one that doesn't exist

module _ (z : ZoneState) (within : AllByRecursion (IsInZone z.apex) z.records) (l : List ℕ) (ls : List (List ℕ)) (missing : exists z (l ∷ ls) ≡ false) (parent : region z ls ≡ Within) (no_dname : asked_records z ls 39 ≡ []) where
  no_cut : (c : Bool) (name : List (List ℕ)) → exists z name ≡ false → (c && is_cut z name) ≡ false
  no_cut c name e = ap (λ (b : Bool). c && b) (not_cut z within name (none_asked z name 2 e)) ∙ and_false z within c

  first_down : (c : Bool) → down z c (l ∷ ls) ls (region z ls) ≡ Within
  first_down c = down_within z within c (l ∷ ls) ls (region z ls) parent no_dname (no_cut c (l ∷ ls) missing)

  record Misses (name : List (List ℕ)) : Type 0 where
    pub region_ : region z name ≡ Within
    pub missing_ : exists z name ≡ false
    pub encloser_ : encloser z name ≡ encloser z ls

  more_down : (c : Bool) (x : List ℕ) (xs : List (List ℕ)) → Misses xs → down z c (x ∷ xs) xs (region z xs) ≡ Within
  more_down c x xs m = down_within z within c (x ∷ xs) xs (region z xs) m.region_ (none_asked z xs 39 m.missing_) (no_cut c (x ∷ xs) (none_below z x xs m.missing_))

  enclosed : (x : List ℕ) (xs : List (List ℕ)) → exists z (x ∷ xs) ≡ false → encloser z (x ∷ xs) ≡ encloser z xs
  enclosed x xs e = ap (λ (b : Bool). if b then x ∷ xs else encloser z xs) e

  misses : (k : ℕ) (name : List (List ℕ)) → drop k name ≡ l ∷ ls → Misses name
  misses zero name e = subst Misses (sym e) (record { region_ = first_down true; missing_ = missing; encloser_ = enclosed l ls missing })
  misses (suc k) [] e = absurd (cc)
  misses (suc k) (x ∷ xs) e =
      let m = misses k xs e in
      let n : exists z (x ∷ xs) ≡ false = none_below z x xs m.missing_ in
      record { region_ = more_down true x xs m; missing_ = n; encloser_ = enclosed x xs n ∙ m.encloser_ }

  asked_within : (t k : ℕ) (name : List (List ℕ)) → drop k name ≡ l ∷ ls → asked_region z t name ≡ Within
  asked_within t zero name e = ap (asked_region z t) e ∙ first_down (not (nat_eq t 43))
  asked_within t (suc k) [] e = absurd (cc)
  asked_within t (suc k) (x ∷ xs) e = more_down (not (nat_eq t 43)) x xs (misses k xs e)

  own_encloser : (xs : List (List ℕ)) → exists z xs ≡ true → encloser z xs ≡ xs
  own_encloser [] e = refl
  own_encloser (y ∷ ys) e = ap (λ (b : Bool). if b then y ∷ ys else encloser z ys) e

  pub reaches_none : (t k : ℕ) (name : List (List ℕ)) → drop k name ≡ l ∷ ls → drop (k + 1) name ≡ ls → exists z ls ≡ true → ReachesNone z t name (k + 1)
  reaches_none t k name e d there =
      let m = misses k name e in
      record { region = asked_within t k name e; missing = m.missing_; encloser_ = m.encloser_ ∙ (own_encloser ls there ∙ sym d) }

-- ---- a zone's nodes

module _ (z : ZoneState) (n : Names) (known : KnowsNames n z.records) where
  pub node_of : (name : List (List ℕ)) (o : List ℕ) (found : Option Kinds) → o ≡ canonical_key name → found ≡ kinds_under n o → IsNode z name found
  node_of name o found e f = record {
    kept = λ t. ap (places_in t) (f ∙ ap (kinds_under n) e) ∙ known.kept name t;
    there = ap is_some (f ∙ ap (kinds_under n) e) ∙ known.there name;
  }
