-- How many requests are in a transaction.
use Rattle.std.proofs.Common.{◌≡◌, ℕ, zero, suc, ◌+◌, ◌-◌, ◌≤◌, List, [], ◌∷◌, ◌++◌, length, Some, Bool, true, false, cond, refl, ap, sym, ◌∙◌, arith, set, length-set}
use Rattle.std.specs.Prelude.{◌==◌, slice_get, filter, min, not, ◌&&◌, ◌||◌, if◌then◌else◌}
use Rattle.std.specs.List.{list_any}
use Rattle.std.proofs.Math.Dec.{eqb-suc-zero}
use Rattle.dns_framing.specs.Req.{Req}
use Rattle.dns_session.specs.Slate.{SlateRequest}
use Rattle.dns_session.specs.Requests.{unpolled}
use Rattle.dns_session.specs.Connections.{in_transaction}

-- a number of those that pass, if one that did, or didn't, does now, or doesn't
abbrev pub recounted : Bool → Bool → ℕ → ℕ
recounted true true n = n
recounted true false n = n - 1
recounted false true n = n + 1
recounted false false n = n

set_first : (b c : Bool) (n : ℕ) → cond c (suc n) n ≡ recounted b c (cond b (suc n) n)
set_first true true n = refl
set_first true false n = omega arith
set_first false true n = omega arith
set_first false false n = refl

set_later : (b c d : Bool) (n : ℕ) → (b ≡ true → 1 ≤ n) → cond d (suc (recounted b c n)) (recounted b c n) ≡ recounted b c (cond d (suc n) n)
set_later true true true n h = refl
set_later true true false n h = refl
set_later true false true n h = let one = h refl in omega (arith, one)
set_later true false false n h = refl
set_later false true true n h = omega arith
set_later false true false n h = refl
set_later false false true n h = refl
set_later false false false n h = refl

module _ {X : Type 0} (p : X → Bool) where
  -- how many pass
  abbrev pub passing : List X → ℕ
  passing xs = length (filter p xs)

  front : (x : X) (xs : List X) (b : Bool) → p x ≡ b → passing (x ∷ xs) ≡ cond b (suc (passing xs)) (passing xs)
  front x xs true h = rw h refl
  front x xs false h = rw h refl

  -- one more that doesn't
  pub passing_last : (xs : List X) (y : X) → p y ≡ false → passing (xs ++ y ∷ []) ≡ passing xs
  passing_last [] y h = rw h refl
  passing_last (x ∷ xs) y h = front x (xs ++ y ∷ []) (p x) refl ∙ (ap (λ (n : ℕ). cond (p x) (suc n) n) (passing_last xs y h) ∙ sym (front x xs (p x) refl))

  one_more : (x : X) (xs : List X) (b : Bool) → p x ≡ b → 1 ≤ passing xs → 1 ≤ passing (x ∷ xs)
  one_more x xs true h l = let f = front x xs true h in omega (arith, f)
  one_more x xs false h l = let f = front x xs false h in omega (arith, f)

  -- one that does counts
  passing_one : (xs : List X) (k : ℕ) (y : X) → slice_get xs k ≡ Some y → p y ≡ true → 1 ≤ passing xs
  passing_one [] k y e h = cc
  passing_one (x ∷ xs) zero y e h =
      let same : x ≡ y = cc in
      let f = front x xs true (ap p same ∙ h) in
      omega (arith, f)
  passing_one (x ∷ xs) (suc k) y e h = one_more x xs (p x) refl (passing_one xs k y e h)

  no_more : (x : X) (xs : List X) (b : Bool) → p x ≡ b → passing xs ≤ length xs → passing (x ∷ xs) ≤ suc (length xs)
  no_more x xs true h l = let f = front x xs true h in omega (arith, f)
  no_more x xs false h l = let f = front x xs false h in omega (arith, f)

  passing_at_most : (xs : List X) → passing xs ≤ length xs
  passing_at_most [] = omega arith
  passing_at_most (x ∷ xs) = no_more x xs (p x) refl (passing_at_most xs)

  -- one is another now
  passing_set : (xs : List X) (k : ℕ) (y z : X) → slice_get xs k ≡ Some y → passing (set xs k z) ≡ recounted (p y) (p z) (passing xs)
  passing_set [] k y z e = cc
  passing_set (x ∷ xs) zero y z e =
      let same : x ≡ y = cc in
      front z xs (p z) refl ∙ (set_first (p y) (p z) (passing xs) ∙ ap (recounted (p y) (p z)) (sym (front x xs (p y) (ap p same))))
  passing_set (x ∷ xs) (suc k) y z e =
      front x (set xs k z) (p x) refl
      ∙ (ap (λ (n : ℕ). cond (p x) (suc n) n) (passing_set xs k y z e)
      ∙ (set_later (p y) (p z) (p x) (passing xs) (passing_one xs k y e)
      ∙ ap (recounted (p y) (p z)) (sym (front x xs (p x) refl))))

  any_step : (x : X) (xs : List X) (b : Bool) → p x ≡ b → not (list_any p xs) ≡ (passing xs == 0) → not (p x || list_any p xs) ≡ (passing (x ∷ xs) == 0)
  any_step x xs true h e = ap (λ (b : Bool). not (b || list_any p xs)) h ∙ (sym (eqb-suc-zero (passing xs)) ∙ ap (λ (n : ℕ). n == 0) (sym (front x xs true h)))
  any_step x xs false h e = ap (λ (b : Bool). not (b || list_any p xs)) h ∙ (e ∙ ap (λ (n : ℕ). n == 0) (sym (front x xs false h)))

  -- none passes if the number of those that do is 0
  pub none_passes : (xs : List X) → not (list_any p xs) ≡ (passing xs == 0)
  none_passes [] = refl
  none_passes (x ∷ xs) = any_step x xs (p x) refl (none_passes xs)

  -- the count of the code is the one above, if not more pass than there are
  recount_by : (was now : Bool) (count n t : ℕ)
      → n ≡ (if now && not was then min (t + 1) count else (if was && not now then t - 1 else t))
      → recounted was now t ≤ count → n ≡ recounted was now t
  recount_by true true count n t e h = e
  recount_by true false count n t e h = e
  recount_by false true count n t e h = omega arith
  recount_by false false count n t e h = e

  pub recount_one : (xs : List X) (k : ℕ) (y z : X) (was now : Bool) (count n t : ℕ)
      → slice_get xs k ≡ Some y → was ≡ p y → now ≡ p z → count ≡ length xs → t ≡ passing xs
      → n ≡ (if now && not was then min (t + 1) count else (if was && not now then t - 1 else t))
      → n ≡ passing (set xs k z)
  recount_one xs k y z was now count n t is before after made held e =
      let s : passing (set xs k z) ≡ recounted was now t =
      passing_set xs k y z is
      ∙ (ap (λ (b : Bool). recounted b (p z) (passing xs)) (sym before)
      ∙ (ap (λ (b : Bool). recounted was b (passing xs)) (sym after)
      ∙ ap (λ (m : ℕ). recounted was now m) (sym held))) in
      let l = passing_at_most (set xs k z) in
      let m = length-set xs k z in
      recount_by was now count n t e (omega (arith, s, l, m, made)) ∙ sym s

-- a request that wasn't polled yet is in none
pub one_idle : (rs : List SlateRequest) (r : Req (Unit {0})) → passing in_transaction (rs ++ unpolled r ∷ []) ≡ passing in_transaction rs
one_idle rs r = passing_last in_transaction rs (unpolled r) refl
