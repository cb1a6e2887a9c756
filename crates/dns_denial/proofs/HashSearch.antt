-- The NSEC3 that is nearest to a hash, by its place.
use Rattle.std.proofs.Common.{◌≡◌, ℕ, ◌+◌, ◌-◌, ◌≤◌, ◌<◌, true, false, List, length, refl, ap, sym, ◌∙◌, arith, inl, inr}
use Rattle.std.specs.Prelude.{◌⊎◌, slice_index_or}
use Rattle.std.specs.Cmp.Lexicographic.{nat_list_cmp_total, slice_cmp}
use Rattle.std.specs.List.{Contains}
use Rattle.std.specs.List.Sorted.{IsPartitionPoint, IsPartitionedBy}
use Rattle.std.specs.Ordering.{is_gt, is_lt, nat_cmp, ordering_reverse}
use Rattle.std.specs.declared.cmp.Ordering.{Ordering}
use Rattle.std.specs.declared.cmp.Ordering.TheVariants.{Less, Equal, Greater}
use Rattle.std.proofs.lemmas.Bool.{true≢false, cases_lt, cases_order, not-true, not-false, not_from_false, true_from_ne_false}
use Rattle.std.proofs.lemmas.Cmp.{tied_itself, upto}
use Rattle.dns_denial.specs.Hashes.{AreSorted3, is_up_to3}
use Rattle.dns_denial.specs.Nsec3.{IsNearest, Nsec3State, is_lower}
use Rattle.dns_denial.proofs.PlaceLaws.{same_default}

flipped : (o : Ordering) → is_gt (ordering_reverse o) ≡ is_lt o
flipped Less = refl
flipped Equal = refl
flipped Greater = refl

not_both : (o : Ordering) → is_lt o ≡ true → is_gt o ≡ false
not_both Less h = refl
not_both Equal h = absurd (true≢false (sym h))
not_both Greater h = absurd (true≢false (sym h))

turned : (a b : List ℕ) → is_gt (slice_cmp nat_cmp a b) ≡ is_lower b a
turned a b = ap is_gt (nat_list_cmp_total.antisymm a b) ∙ flipped (slice_cmp nat_cmp b a)

pub lower_upto : (a b : List ℕ) → is_lower a b ≡ true → is_lower b a ≡ false
lower_upto a b h = sym (turned a b) ∙ not_both (slice_cmp nat_cmp a b) h

pub upto_trans : (a b c : List ℕ) → is_lower b a ≡ false → is_lower c b ≡ false → is_lower c a ≡ false
upto_trans a b c h k = sym (turned a c) ∙ upto nat_list_cmp_total a b c (turned a b ∙ h) (turned b c ∙ k)

pub itself : (a : List ℕ) → is_lower a a ≡ false
itself a = ap is_lt (tied_itself nat_list_cmp_total a)

module _ (ns : List Nsec3State) (o : List ℕ) (sorted : AreSorted3 ns) where
  -- one at a place is not above one at a later place, or at the same
  in_order : (n m : Nsec3State) (c : Contains ns n) (d : Contains ns m) → c.0 ≤ d.0 → is_lower m.hash n.hash ≡ false
  in_order n m c d l = by_place (cases_lt c.0 d.0)
    where
      at : slice_index_or ns d.0 n ≡ m
      at = same_default ns d.0 n m d.1 ∙ d.2

      by_place : (c.0 < d.0) ⊎ (d.0 ≤ c.0) → is_lower m.hash n.hash ≡ false
      by_place (inl k) = lower_upto n.hash m.hash (ap (λ (x : Nsec3State). is_lower x.hash m.hash) (sym c.2) ∙ (ap (λ (y : Nsec3State). is_lower (slice_index_or ns c.0 n).hash y.hash) (sym at) ∙ sorted c.0 d.0 n k d.1))
      by_place (inr k) =
          let q : c.0 ≡ d.0 = omega arith in
          let e : n ≡ m = sym c.2 ∙ (ap (λ (i : ℕ). slice_index_or ns i n) q ∙ at) in
          ap (λ (x : Nsec3State). is_lower m.hash x.hash) e ∙ itself m.hash

  pub partitioned : IsPartitionedBy (is_up_to3 o) ns
  partitioned i j d l k h = by_place (cases_lt i j)
    where
      by_place : (i < j) ⊎ (j ≤ i) → is_up_to3 o (slice_index_or ns i d) ≡ true
      by_place (inl m) =
          not_from_false (is_lower o (slice_index_or ns i d).hash)
          (upto_trans (slice_index_or ns i d).hash (slice_index_or ns j d).hash o (lower_upto (slice_index_or ns i d).hash (slice_index_or ns j d).hash (sorted i j d m k)) (not-true (is_lower o (slice_index_or ns j d).hash) h))
      by_place (inr m) = let e : j ≡ i = omega arith in ap (λ (q : ℕ). is_up_to3 o (slice_index_or ns q d)) (sym e) ∙ h

  module _ (count : ℕ) (p : IsPartitionPoint (λ (m : Nsec3State). is_up_to3 o m ≡ true) (λ (m : Nsec3State). is_up_to3 o m ≡ false) ns count) where
    -- all hashes are above: the highest one
    pub nearest_wrapped : (n : Nsec3State) → count ≡ 0 → 0 < length ns → n ≡ slice_index_or ns (length ns - 1) n → IsNearest ns o n
    nearest_wrapped n z l e =
        let here : Contains ns n = (length ns - 1, omega arith, sym e) in
        record {
          one = here;
          near = inr (
            (λ m c. not-false (is_lower o m.hash) (ap (is_up_to3 o) (sym c.2) ∙ p.1 c.0 m (omega arith) c.1)),
            (λ m c. in_order m n c here (omega (arith, c.1))),
          );
        }

    pub nearest_before : (n : Nsec3State) → 0 < count → count ≤ length ns → n ≡ slice_index_or ns (count - 1) n → IsNearest ns o n
    nearest_before n l b e =
        let here : Contains ns n = (count - 1, omega arith, sym e) in
        record {
          one = here;
          near = inl (not-true (is_lower o n.hash) (ap (is_up_to3 o) e ∙ p.0 (count - 1) n (omega arith) (omega arith)), (λ m c h. by_place m c h (cases_lt c.0 count)));
        }
      where
        by_place : (m : Nsec3State) (c : Contains ns m) → is_lower o m.hash ≡ false → (c.0 < count) ⊎ (count ≤ c.0) → is_lower n.hash m.hash ≡ false
        by_place m c h (inl k) = in_order m n c (count - 1, omega arith, sym e) (omega (arith, k))
        by_place m c h (inr k) = absurd (true≢false (sym (not_from_false (is_lower o m.hash) h) ∙ (ap (is_up_to3 o) (sym c.2) ∙ p.1 c.0 m k c.1)))

-- ---- a list that is sorted up to a place

abbrev pub SortedBelow3 : List Nsec3State → ℕ → Type 0
SortedBelow3 ns high = (i j : ℕ) (d : Nsec3State) → i < j → j < high → j < length ns → is_lower (slice_index_or ns i d).hash (slice_index_or ns j d).hash ≡ true

lower_lower : (a b c : List ℕ) → is_lower a b ≡ true → is_lower c b ≡ false → is_lower a c ≡ true
lower_lower a b c h k = true_from_ne_false (is_lower a c) (λ f. true≢false (sym h ∙ upto_trans b c a k f))

pub sorted_more3 : (ns : List Nsec3State) (k : ℕ) → 0 < k → k < length ns → ((d : Nsec3State) → is_lower (slice_index_or ns (k - 1) d).hash (slice_index_or ns k d).hash ≡ true) → SortedBelow3 ns k → SortedBelow3 ns (k + 1)
sorted_more3 ns k p l h w i j d a b c = by_place (cases_order j k)
  where
    by_front : (i < k - 1) ⊎ (k - 1 ≤ i) → j ≡ k → is_lower (slice_index_or ns i d).hash (slice_index_or ns k d).hash ≡ true
    by_front (inl f) e =
        lower_lower (slice_index_or ns i d).hash (slice_index_or ns (k - 1) d).hash (slice_index_or ns k d).hash (w i (k - 1) d f (omega arith) (omega arith))
        (lower_upto (slice_index_or ns (k - 1) d).hash (slice_index_or ns k d).hash (h d))
    by_front (inr f) e = let q : i ≡ k - 1 = omega arith in ap (λ (x : ℕ). is_lower (slice_index_or ns x d).hash (slice_index_or ns k d).hash) q ∙ h d

    by_place : (j ≡ k) ⊎ ((j < k) ⊎ (k < j)) → is_lower (slice_index_or ns i d).hash (slice_index_or ns j d).hash ≡ true
    by_place (inl e) = ap (λ (x : ℕ). is_lower (slice_index_or ns i d).hash (slice_index_or ns x d).hash) e ∙ by_front (cases_lt i (k - 1)) e
    by_place (inr (inl e)) = w i j d a e c
    by_place (inr (inr e)) = absurd (omega arith)

-- what is read at two neighbouring places
pub pair_read3 : (ns : List Nsec3State) (k : ℕ) (a b : Nsec3State) → 0 < k → k < length ns → a ≡ slice_index_or ns (k - 1) a → b ≡ slice_index_or ns k b → (d : Nsec3State) → is_lower a.hash b.hash ≡ is_lower (slice_index_or ns (k - 1) d).hash (slice_index_or ns k d).hash
pair_read3 ns k a b p l e f d =
    let x : a ≡ slice_index_or ns (k - 1) d = e ∙ same_default ns (k - 1) a d (omega arith) in
    let y : b ≡ slice_index_or ns k d = f ∙ same_default ns k b d l in
    λ i. is_lower (x i).hash (y i).hash
