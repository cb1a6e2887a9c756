-- The last NSEC that is not after a name, by its place.
use Rattle.std.proofs.Common.{◌≡◌, ℕ, zero, suc, ◌+◌, ◌-◌, ◌≤◌, ◌<◌, Bool, true, false, List, [], ◌∷◌, length, ap, sym, ◌∙◌, arith, inl, inr}
use Rattle.std.specs.Prelude.{◌⊎◌, slice_index_or}
use Rattle.std.specs.List.{Contains, slice_get}
use Rattle.std.specs.List.Sorted.{IsPartitionPoint, IsPartitionedBy}
use Rattle.std.specs.Option.{option_map_or}
use Rattle.std.proofs.lemmas.Bool.{true≢false, cases_lt, cases_order, false_from_ne_true, not-true, not-false, not_from_false}
use Rattle.dns_denial.specs.Nsecs.{AreSorted, IsCountUpTo, NsecState, is_before, is_up_to}
use Rattle.dns_denial.specs.Denials.{AllBehind, IsLast}
use Rattle.dns_denial.proofs.OrderLaws.{before_before, before_upto, upto_trans}
use Rattle.dns_denial.proofs.PlaceLaws.{same_default}

module _ (ns : List NsecState) (name : List (List ℕ)) where
  -- those that are not after a name come first
  pub partitioned : AreSorted ns → IsPartitionedBy (is_up_to name) ns
  partitioned sorted i j d l k h = by_place (cases_lt i j)
    where
      by_place : (i < j) ⊎ (j ≤ i) → is_up_to name (slice_index_or ns i d) ≡ true
      by_place (inl m) =
          not_from_false (is_before name (slice_index_or ns i d).owner)
          (upto_trans (slice_index_or ns i d).owner (slice_index_or ns j d).owner name (before_upto (slice_index_or ns i d).owner (slice_index_or ns j d).owner (sorted i j d m k)) (not-true (is_before name (slice_index_or ns j d).owner) h))
      by_place (inr m) = let e : j ≡ i = omega arith in ap (λ (q : ℕ). is_up_to name (slice_index_or ns q d)) (sym e) ∙ h

  -- what is at a place of a list is what is read there
  got_there : (xs : List NsecState) (i : ℕ) (d : NsecState) (b : Bool) → i < length xs → option_map_or (is_up_to name) (slice_get xs i) false ≡ b → is_up_to name (slice_index_or xs i d) ≡ b
  got_there [] i d b l e = absurd (omega (arith, l))
  got_there (x ∷ xs) zero d b l e = e
  got_there (x ∷ xs) (suc i) d b l e = got_there xs i d b (omega (arith, l)) e

  got_within : (xs : List NsecState) (i : ℕ) → option_map_or (is_up_to name) (slice_get xs i) false ≡ true → i < length xs
  got_within [] i e = absurd (cc)
  got_within (x ∷ xs) zero e = omega arith
  got_within (x ∷ xs) (suc i) e = let l = got_within xs i e in omega (arith, l)

  -- none after one that is after the name isn't after it
  not_behind : AreSorted ns → (count : ℕ) → option_map_or (is_up_to name) (slice_get ns count) false ≡ false → (k : ℕ) (d : NsecState) → count ≤ k → k < length ns → is_up_to name (slice_index_or ns k d) ≡ false
  not_behind w count e k d l h =
      false_from_ne_true (is_up_to name (slice_index_or ns k d)) (λ t. true≢false (sym (partitioned w count k d l h t) ∙ got_there ns count d false (omega (arith, l, h)) e))

  pub point_at_first : AreSorted ns → (count : ℕ) → option_map_or (is_up_to name) (slice_get ns count) false ≡ false → count ≡ 0 → IsCountUpTo ns name count
  point_at_first w count e z = (λ k d l h. absurd (omega (arith, h, z)), not_behind w count e)

  pub point_at : AreSorted ns → (count : ℕ) → option_map_or (is_up_to name) (slice_get ns count) false ≡ false → option_map_or (is_up_to name) (slice_get ns (count - 1)) false ≡ true → IsCountUpTo ns name count
  point_at w count e f =
      (λ k d l h. partitioned w k (count - 1) d (omega (arith, h)) (got_within ns (count - 1) f) (got_there ns (count - 1) d true (got_within ns (count - 1) f) f), not_behind w count e)

  pub all_behind : (count : ℕ) → count ≡ 0 → IsPartitionPoint (λ (n : NsecState). is_up_to name n ≡ true) (λ (n : NsecState). is_up_to name n ≡ false) ns count → AllBehind ns name
  all_behind count e p m c =
      not-false (is_before name m.owner) (ap (is_up_to name) (sym c.2) ∙ p.1 c.0 m (omega arith) c.1)

  pub is_last : AreSorted ns → (count : ℕ) (n : NsecState) → 0 < count → count ≤ length ns → n ≡ slice_index_or ns (count - 1) n →
      IsPartitionPoint (λ (m : NsecState). is_up_to name m ≡ true) (λ (m : NsecState). is_up_to name m ≡ false) ns count → IsLast ns name n
  is_last sorted count n l b e p =
      let here : Contains ns n = (count - 1, omega arith, sym e) in
      record {
        one = here;
        upto = not-true (is_before name n.owner) (ap (is_up_to name) e ∙ p.0 (count - 1) n (omega arith) (omega arith));
        last = λ m c h. by_place m c h (cases_order c.0 (count - 1));
      }
    where
      by_place : (m : NsecState) → (c : Contains ns m) → is_before name m.owner ≡ false → (c.0 ≡ count - 1) ⊎ ((c.0 < count - 1) ⊎ (count - 1 < c.0)) → is_before n.owner m.owner ≡ false
      by_place m c h (inl q) =
          let k : m ≡ n = sym c.2 ∙ (ap (λ (i : ℕ). slice_index_or ns i m) q ∙ (same_default ns (count - 1) m n (omega arith) ∙ sym e)) in
          ap (λ (x : NsecState). is_before n.owner x.owner) k ∙ itself n.owner
        where
          itself : (a : List (List ℕ)) → is_before a a ≡ false
          itself a = false_from_ne_true (is_before a a) (λ t. true≢false (sym t ∙ before_upto a a t))
      by_place m c h (inr (inl q)) =
          before_upto m.owner n.owner
          (ap (λ (x : NsecState). is_before x.owner n.owner) (sym c.2)
          ∙ (ap (λ (y : NsecState). is_before (slice_index_or ns c.0 m).owner y.owner) (e ∙ same_default ns (count - 1) n m (omega arith)) ∙ sorted c.0 (count - 1) m q (omega arith)))
      by_place m c h (inr (inr q)) = absurd (true≢false (sym (not_from_false (is_before name m.owner) h) ∙ (ap (is_up_to name) (sym c.2) ∙ p.1 c.0 m (omega arith) c.1)))

-- ---- a list that is sorted up to a place

abbrev pub SortedBelow : List NsecState → ℕ → Type 0
SortedBelow ns high = (i j : ℕ) (d : NsecState) → i < j → j < high → j < length ns → is_before (slice_index_or ns i d).owner (slice_index_or ns j d).owner ≡ true

pub sorted_more : (ns : List NsecState) (k : ℕ) → 0 < k → k < length ns → ((d : NsecState) → is_before (slice_index_or ns (k - 1) d).owner (slice_index_or ns k d).owner ≡ true) → SortedBelow ns k → SortedBelow ns (k + 1)
sorted_more ns k p l h w i j d a b c = by_place (cases_order j k)
  where
    by_front : (i < k - 1) ⊎ (k - 1 ≤ i) → j ≡ k → is_before (slice_index_or ns i d).owner (slice_index_or ns k d).owner ≡ true
    by_front (inl f) e =
        before_before (slice_index_or ns i d).owner (slice_index_or ns (k - 1) d).owner (slice_index_or ns k d).owner (w i (k - 1) d f (omega arith) (omega arith))
        (before_upto (slice_index_or ns (k - 1) d).owner (slice_index_or ns k d).owner (h d))
    by_front (inr f) e = let q : i ≡ k - 1 = omega arith in ap (λ (x : ℕ). is_before (slice_index_or ns x d).owner (slice_index_or ns k d).owner) q ∙ h d

    by_place : (j ≡ k) ⊎ ((j < k) ⊎ (k < j)) → is_before (slice_index_or ns i d).owner (slice_index_or ns j d).owner ≡ true
    by_place (inl e) = ap (λ (x : ℕ). is_before (slice_index_or ns i d).owner (slice_index_or ns x d).owner) e ∙ by_front (cases_lt i (k - 1)) e
    by_place (inr (inl e)) = w i j d a e c
    by_place (inr (inr e)) = absurd (omega arith)

-- what is read at two neighbouring places
pub pair_read : (ns : List NsecState) (k : ℕ) (a b : NsecState) → 0 < k → k < length ns → a ≡ slice_index_or ns (k - 1) a → b ≡ slice_index_or ns k b → (d : NsecState) → is_before a.owner b.owner ≡ is_before (slice_index_or ns (k - 1) d).owner (slice_index_or ns k d).owner
pair_read ns k a b p l e f d =
    let x : a ≡ slice_index_or ns (k - 1) d = e ∙ same_default ns (k - 1) a d (omega arith) in
    let y : b ≡ slice_index_or ns k d = f ∙ same_default ns k b d l in
    λ i. is_before (x i).owner (y i).owner
