-- Masks of lists.
use Rattle.std.proofs.Common.{◌≡◌, ℕ, zero, suc, ◌+◌, ◌-◌, ◌≤◌, ◌<◌, List, [], ◌∷◌, ◌++◌, length, take, drop, refl, ap, arith, add-one}
use Rattle.std.specs.Prelude.{slice_set, slice_index}
use Rattle.dns_kinds.specs.Subnet.{masked, mask_octet}

pub mask_at : (s i : ℕ) (a : List ℕ) (x : ℕ) → i < length a → x ≡ mask_octet s (slice_index a i) → take (suc i) (slice_set a i x) ++ masked (s - 8) (drop (suc i) (slice_set a i x)) ≡ take i a ++ masked s (drop i a)
mask_at s i [] x h e = absurd (omega arith)
mask_at s zero (b ∷ a) x h e = ap (λ y. y ∷ masked (s - 8) a) e
mask_at s (suc i) (b ∷ a) x h e = ap (λ r. b ∷ r) (mask_at s i a x (omega arith) e)

pub mask_step : (s t i j : ℕ) (a : List ℕ) (x : ℕ) → i < length a → j ≡ i + 1 → t ≡ s - 8 → x ≡ mask_octet s (slice_index a i) → take j (slice_set a i x) ++ masked t (drop j (slice_set a i x)) ≡ take i a ++ masked s (drop i a)
mask_step s t i j a x h k l e = rw (k, l, add-one) (mask_at s i a x h e)

pub mask_end : (s i : ℕ) (a : List ℕ) → length a ≤ i → take i a ++ masked s (drop i a) ≡ a
mask_end s i [] h = elim i as (λ i. take i (let n : List ℕ = [] in n) ++ masked s (drop i (let n : List ℕ = [] in n)) ≡ []) [ zero ↦ refl | suc n ↦ refl ]
mask_end s zero (b ∷ a) h = absurd (omega arith)
mask_end s (suc i) (b ∷ a) h = ap (λ r. b ∷ r) (mask_end s i a (omega arith))
