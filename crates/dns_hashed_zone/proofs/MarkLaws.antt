-- NSEC3s that are met, by their places.
use Rattle.std.proofs.Common.{◌≡◌, ℕ, zero, suc, ◌+◌, ◌<◌, ◌≤◌, Bool, true, false, List, [], ◌∷◌, length, get_or, map, refl, ap, sym, ◌∙◌, arith, inl, inr}
use Rattle.std.specs.Prelude.{◌||◌, ◌⊎◌, not}
use Rattle.std.specs.Cmp.{both_ways}
use Rattle.std.specs.List.{list_all, list_any}
use Rattle.std.specs.Str.{bytes_eq}
use Rattle.std.proofs.Math.ListN.{set}
use Rattle.std.proofs.lemmas.Bool.{true≢false, cases_Bool, cases_lt, false_from_ne_true, or_from, or_parts}
use Rattle.dns_zone.specs.Owned.{ZoneState}
use Rattle.dns_denial.specs.Hashes.{AreSorted3}
use Rattle.dns_denial.specs.Nsec3.{Hashing, Nsec3State, hash_of, is_lower, is_matched, matches3}
use Rattle.dns_denial.proofs.HashOrder.{same_hash}
use Rattle.dns_denial.proofs.HashSearch.{itself}
use Rattle.dns_denial.proofs.ListLaws.{all_of, each_of}
use Rattle.dns_denial.proofs.PlaceLaws.{same_default}
use Rattle.dns_hashed_zone.specs.HashedChecks.{lists_types}
use Rattle.dns_hashed_zone.specs.Meetings.{all_marked, marked}

-- ---- one NSEC3 of a chain has a hash

module _ (ns : List Nsec3State) (sorted : AreSorted3 ns) (o : List ℕ) where
  below_apart : (i j : ℕ) (d : Nsec3State) → i < j → j < length ns → bytes_eq (get_or ns i d).hash o ≡ true → bytes_eq (get_or ns j d).hash o ≡ true → ⊥
  below_apart i j d l m a b =
      let e : (get_or ns i d).hash ≡ (get_or ns j d).hash = same_hash (get_or ns i d).hash o a ∙ sym (same_hash (get_or ns j d).hash o b) in
      true≢false (sym (sorted i j d l m) ∙ (ap (λ (x : List ℕ). is_lower x (get_or ns j d).hash) e ∙ itself (get_or ns j d).hash))

  pub one_place : (i j : ℕ) (d : Nsec3State) → i < length ns → j < length ns → bytes_eq (get_or ns i d).hash o ≡ true → bytes_eq (get_or ns j d).hash o ≡ true → i ≡ j
  one_place i j d l m a b = by_order (cases_lt i j)
    where
      by_back : (j < i) ⊎ (i ≤ j) → j ≤ i → i ≡ j
      by_back (inl k) q = absurd (below_apart j i d k l b a)
      by_back (inr k) q = omega (arith, k, q)

      by_order : (i < j) ⊎ (j ≤ i) → i ≡ j
      by_order (inl k) = absurd (below_apart i j d k m a b)
      by_order (inr k) = by_back (cases_lt j i) k

-- ---- the one that a name has lists its types, or all that match do

module _ (z : ZoneState) (h : Hashing) (ns : List Nsec3State) (sorted : AreSorted3 ns) (name : List (List ℕ)) where
  abbrev lists_if : Nsec3State → Bool
  lists_if n = not (matches3 h name n) || lists_types z name n

  if_not : (b c : Bool) → (not b || c) ≡ true → b ≡ true → c ≡ true
  if_not true c e t = e
  if_not false c e t = absurd (true≢false (sym t))

  or_not : (b c : Bool) → (b ≡ true → c ≡ true) → (not b || c) ≡ true
  or_not true c f = f refl
  or_not false c f = refl

  pub all_listed : (p : ℕ) (n : Nsec3State) → p < length ns → n ≡ get_or ns p n → matches3 h name n ≡ true → list_all lists_if ns ≡ lists_types z name n
  all_listed p n l e m = both_ways (list_all lists_if ns) (lists_types z name n)
      (λ t. if_not (matches3 h name n) (lists_types z name n) (each_of lists_if ns t n (p, l, sym e)) m)
      (λ t. all_of lists_if ns (λ k c. or_not (matches3 h name k) (lists_types z name k) (λ f.
      let q : c.0 ≡ p = one_place ns sorted (hash_of h name) c.0 p n c.1 l
      (ap (λ (x : Nsec3State). bytes_eq x.hash (hash_of h name)) (same_default ns c.0 n k c.1 ∙ c.2) ∙ f)
      (ap (λ (x : Nsec3State). bytes_eq x.hash (hash_of h name)) (sym e) ∙ m) in
      let s : k ≡ n = sym c.2 ∙ (same_default ns c.0 k n c.1 ∙ (ap (λ (i : ℕ). get_or ns i n) q ∙ sym e)) in
      ap (lists_types z name) s ∙ t)))

-- ---- places

or_false : (b : Bool) → (b || false) ≡ b
or_false true = refl
or_false false = refl

or_true : (b : Bool) → (b || true) ≡ true
or_true true = refl
or_true false = refl

module _ (h : Hashing) (name : List (List ℕ)) where
  pub marked_length : (ns : List Nsec3State) (met : List Bool) → length met ≡ length ns → length (marked h name ns met) ≡ length ns
  marked_length [] [] e = refl
  marked_length [] (b ∷ bs) e = absurd (omega (arith, e))
  marked_length (n ∷ ns) [] e = absurd (omega (arith, e))
  marked_length (n ∷ ns) (b ∷ bs) e = let k = marked_length ns bs (omega (arith, e)) in omega (arith, k)

  pub marked_none : (ns : List Nsec3State) (met : List Bool) → length met ≡ length ns → is_matched h ns name ≡ false → met ≡ marked h name ns met
  marked_none [] met e f = refl
  marked_none (n ∷ ns) [] e f = absurd (omega (arith, e))
  marked_none (n ∷ ns) (b ∷ bs) e f =
      let p = or_parts (matches3 h name n) (list_any (matches3 h name) ns) f in
      let q : b ≡ (b || matches3 h name n) = sym (ap (λ (c : Bool). b || c) p.0 ∙ or_false b) in
      let r : bs ≡ marked h name ns bs = marked_none ns bs (omega (arith, e)) p.1 in
      λ i. q i ∷ r i

  none_by : (ns : List Nsec3State) → ((k : ℕ) (d : Nsec3State) → k < length ns → matches3 h name (get_or ns k d) ≡ false) → is_matched h ns name ≡ false
  none_by [] f = refl
  none_by (n ∷ ns) f = or_from (matches3 h name n) (list_any (matches3 h name) ns) (f zero n (omega arith)) (none_by ns (λ k d l. f (suc k) d (omega (arith, l))))

  marked_at : (ns : List Nsec3State) (met : List Bool) (p : ℕ) → length met ≡ length ns → p < length ns → ((d : Nsec3State) → matches3 h name (get_or ns p d) ≡ true) → ((k : ℕ) (d : Nsec3State) → k < length ns → (k ≡ p → ⊥) → matches3 h name (get_or ns k d) ≡ false) → set met p true ≡ marked h name ns met
  marked_at [] met p e l a f = absurd (omega (arith, l))
  marked_at (n ∷ ns) [] p e l a f = absurd (omega (arith, e))
  marked_at (n ∷ ns) (b ∷ bs) zero e l a f =
      let q : true ≡ (b || matches3 h name n) = sym (ap (λ (c : Bool). b || c) (a n) ∙ or_true b) in
      let r : bs ≡ marked h name ns bs = marked_none ns bs (omega (arith, e)) (none_by ns (λ k d m. f (suc k) d (omega (arith, m)) (λ i. omega (arith, i)))) in
      λ i. q i ∷ r i
  marked_at (n ∷ ns) (b ∷ bs) (suc p) e l a f =
      let q : b ≡ (b || matches3 h name n) = sym (ap (λ (c : Bool). b || c) (f zero n (omega arith) (λ i. omega (arith, i))) ∙ or_false b) in
      let r : set bs p true ≡ marked h name ns bs = marked_at ns bs p (omega (arith, e)) (omega (arith, l)) a (λ k d m u. f (suc k) d (omega (arith, m)) (λ i. u (omega (arith, i)))) in
      λ i. q i ∷ r i

  -- the NSEC3 of a name is met at its place
  pub marked_by : (ns : List Nsec3State) (met : List Bool) (p : ℕ) (n : Nsec3State) → AreSorted3 ns → length met ≡ length ns → p < length ns → n ≡ get_or ns p n → matches3 h name n ≡ true → set met p true ≡ marked h name ns met
  marked_by ns met p n sorted e l s m = marked_at ns met p e l
      (λ d. ap (matches3 h name) (same_default ns p d n l ∙ sym s) ∙ m)
      (λ k d i u. false_from_ne_true (matches3 h name (get_or ns k d)) (λ t. u (one_place ns sorted (hash_of h name) k p d i l t (ap (matches3 h name) (same_default ns p d n l ∙ sym s) ∙ m))))

-- ---- what is met by names is said of each NSEC3

pub marked_map : (h : Hashing) (name : List (List ℕ)) (ns : List Nsec3State) (q : Nsec3State → Bool) → marked h name ns (map q ns) ≡ map (λ (n : Nsec3State). q n || matches3 h name n) ns
marked_map h name [] q = refl
marked_map h name (n ∷ ns) q = ap (λ (bs : List Bool). (q n || matches3 h name n) ∷ bs) (marked_map h name ns q)

map_agree : (p q : Nsec3State → Bool) → ((n : Nsec3State) → p n ≡ q n) → (ns : List Nsec3State) → map p ns ≡ map q ns
map_agree p q e [] = refl
map_agree p q e (n ∷ ns) = λ i. e n i ∷ map_agree p q e ns i

or_turned : (a b c : Bool) → ((a || c) || b) ≡ (a || (b || c))
or_turned true b c = refl
or_turned false true true = refl
or_turned false true false = refl
or_turned false false true = refl
or_turned false false false = refl

pub all_marked_map : (h : Hashing) (ns : List Nsec3State) (names : List (List (List ℕ))) (q : Nsec3State → Bool) → all_marked h ns names (map q ns) ≡ map (λ (n : Nsec3State). q n || list_any (λ (s : List (List ℕ)). matches3 h s n) names) ns
all_marked_map h ns [] q = map_agree q (λ (n : Nsec3State). q n || false) (λ n. sym (or_false (q n))) ns
all_marked_map h ns (s ∷ ss) q =
    ap (marked h s ns) (all_marked_map h ns ss q)
    ∙ (marked_map h s ns (λ (n : Nsec3State). q n || list_any (λ (t : List (List ℕ)). matches3 h t n) ss)
    ∙ map_agree (λ (n : Nsec3State). (q n || list_any (λ (t : List (List ℕ)). matches3 h t n) ss) || matches3 h s n) (λ (n : Nsec3State). q n || list_any (λ (t : List (List ℕ)). matches3 h t n) (s ∷ ss))
    (λ n. or_turned (q n) (matches3 h s n) (list_any (λ (t : List (List ℕ)). matches3 h t n) ss)) ns)
