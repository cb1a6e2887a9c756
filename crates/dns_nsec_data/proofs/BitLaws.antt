-- The types of the bits of a block.
use Rattle.std.proofs.Common.{◌≡◌, ℕ, zero, suc, ◌+◌, ◌-◌, ◌*◌, ◌/◌, ◌%◌, ◌^◌, ◌<◌, ◌≤◌, Bool, true, false, cond, List, [], ◌∷◌, ◌++◌, length, nat_eq, refl, ap, sym, subst, ◌∙◌, arith, inl, inr, add-one, append_assoc, append-nil}
use Rattle.std.specs.Prelude.{◌||◌, ◌⊎◌, slice_index}
use Rattle.std.specs.List.{list_any}
use Rattle.std.specs.Cmp.{both_ways}
use Rattle.std.proofs.lemmas.Bool.{true≢false, and_from, and_parts, cases_lt, eq-eqb, eqb-true, or_cases, or_left, or_right}
use Rattle.std.proofs.lemmas.List.{get_or_past}
use Rattle.std.proofs.Math.Nat.{zero-div}
use Rattle.std.proofs.lemmas.List.Folds.{list_any-append}
use Rattle.dns_nsec_data.specs.BitMaps.{Block, bit_type, first_types, has_bit, says}

-- a type is that of one of the first bits, which is set
pub record IsBit (bitmap : List ℕ) (first count t : ℕ) : Type 0 where
  pub bit : ℕ
  pub below : bit < count
  pub type_ : t ≡ first + bit
  pub set : has_bit bitmap bit ≡ true

module _ (bitmap : List ℕ) (first t : ℕ) where
  one_bit : (bit : ℕ) (b : Bool) → has_bit bitmap bit ≡ b → list_any (nat_eq t) (cond b ((first + bit) ∷ []) []) ≡ true → IsBit bitmap first (suc bit) t
  one_bit bit true e h = record { bit = bit; below = omega arith; type_ = same (or_cases (nat_eq t (first + bit)) false h); set = e }
    where
      same : (nat_eq t (first + bit) ≡ true) ⊎ (false ≡ true) → t ≡ first + bit
      same (inl k) = eqb-true t (first + bit) k
      same (inr k) = absurd (true≢false (sym k))
  one_bit bit false e h = absurd (true≢false (sym h))

  pub bit_from : (count : ℕ) → list_any (nat_eq t) (first_types bitmap first count) ≡ true → IsBit bitmap first count t
  bit_from zero h = absurd (true≢false (sym h))
  bit_from (suc n) h = by_part (or_cases (list_any (nat_eq t) (first_types bitmap first n)) (list_any (nat_eq t) (bit_type bitmap first n)) (sym (list_any-append (nat_eq t) (first_types bitmap first n) (bit_type bitmap first n)) ∙ h)) (bit_from n)
    where
      by_part : (list_any (nat_eq t) (first_types bitmap first n) ≡ true) ⊎ (list_any (nat_eq t) (bit_type bitmap first n) ≡ true) → (list_any (nat_eq t) (first_types bitmap first n) ≡ true → IsBit bitmap first n t) → IsBit bitmap first (suc n) t
      by_part (inl k) ih = let i = ih k in record { bit = i.bit; below = omega (arith, i.below); type_ = i.type_; set = i.set }
      by_part (inr k) ih = one_bit n (has_bit bitmap n) refl k

  at_bit : (bit : ℕ) → t ≡ first + bit → has_bit bitmap bit ≡ true → list_any (nat_eq t) (bit_type bitmap first bit) ≡ true
  at_bit bit e h = subst (λ (b : Bool). list_any (nat_eq t) (cond b ((first + bit) ∷ []) []) ≡ true) (sym h) (or_left (nat_eq t (first + bit)) false (eq-eqb t (first + bit) e))

  listed_step : (n bit : ℕ) → bit < suc n → t ≡ first + bit → has_bit bitmap bit ≡ true → (bit < n → list_any (nat_eq t) (first_types bitmap first n) ≡ true) → (list_any (nat_eq t) (first_types bitmap first n) || list_any (nat_eq t) (bit_type bitmap first n)) ≡ true
  listed_step n bit l e h ih = by_place (cases_lt bit n)
    where
      by_place : (bit < n) ⊎ (n ≤ bit) → (list_any (nat_eq t) (first_types bitmap first n) || list_any (nat_eq t) (bit_type bitmap first n)) ≡ true
      by_place (inl k) = or_left (list_any (nat_eq t) (first_types bitmap first n)) (list_any (nat_eq t) (bit_type bitmap first n)) (ih k)
      by_place (inr k) =
          let q : bit ≡ n = omega (arith, k, l) in
          or_right (list_any (nat_eq t) (first_types bitmap first n)) (list_any (nat_eq t) (bit_type bitmap first n)) (at_bit n (e ∙ ap (λ (x : ℕ). first + x) q) (subst (λ (x : ℕ). has_bit bitmap x ≡ true) q h))

  pub listed_from : (count bit : ℕ) → bit < count → t ≡ first + bit → has_bit bitmap bit ≡ true → list_any (nat_eq t) (first_types bitmap first count) ≡ true
  listed_from zero bit l e h = absurd (omega (arith, l))
  listed_from (suc n) bit l e h = list_any-append (nat_eq t) (first_types bitmap first n) (bit_type bitmap first n) ∙ listed_step n bit l e h (λ k. listed_from n bit k e h)

-- no bit is set after the octets of a bitmap
zero_bit : (k : ℕ) → nat_eq (0 / 2 ^ k % 2) 1 ≡ false
zero_bit k = ap (λ (x : ℕ). nat_eq (x % 2) 1) (zero-div (2 ^ k))

set_below : (bitmap : List ℕ) (bit : ℕ) → has_bit bitmap bit ≡ true → bit < 8 * length bitmap
set_below bitmap bit h = by_place (cases_lt bit (8 * length bitmap))
  where
    by_place : (bit < 8 * length bitmap) ⊎ (8 * length bitmap ≤ bit) → bit < 8 * length bitmap
    by_place (inl k) = k
    by_place (inr k) =
        let z : slice_index bitmap (bit / 8) ≡ 0 = get_or_past bitmap (bit / 8) 0 (omega (arith, k)) in
        absurd (true≢false (sym h ∙ (ap (λ (x : ℕ). nat_eq (x / 2 ^ (7 - bit % 8) % 2) 1) z ∙ zero_bit (7 - bit % 8))))

-- the types of the bits of a block are those that it says
pub block_read : (b : Block) → length b.bitmap ≤ 32 → (t : ℕ) → list_any (nat_eq t) (first_types b.bitmap (256 * b.window) (8 * length b.bitmap)) ≡ says t b
block_read b few t = both_ways (list_any (nat_eq t) (first_types b.bitmap (256 * b.window) (8 * length b.bitmap))) (says t b) says_it lists_it
  where
    says_it : list_any (nat_eq t) (first_types b.bitmap (256 * b.window) (8 * length b.bitmap)) ≡ true → says t b ≡ true
    says_it h =
        let i = bit_from b.bitmap (256 * b.window) t (8 * length b.bitmap) h in
        let below : i.bit < 256 = omega (arith, i.below, few) in
        let w : t / 256 ≡ b.window = omega (arith, i.type_, below) in
        let k : t % 256 ≡ i.bit = omega (arith, i.type_, below) in
        and_from (nat_eq b.window (t / 256)) (has_bit b.bitmap (t % 256)) (eq-eqb b.window (t / 256) (sym w)) (ap (has_bit b.bitmap) k ∙ i.set)

    lists_it : says t b ≡ true → list_any (nat_eq t) (first_types b.bitmap (256 * b.window) (8 * length b.bitmap)) ≡ true
    lists_it h =
        let p = and_parts (nat_eq b.window (t / 256)) (has_bit b.bitmap (t % 256)) h in
        let w : b.window ≡ t / 256 = eqb-true b.window (t / 256) p.0 in
        listed_from b.bitmap (256 * b.window) t (8 * length b.bitmap) (t % 256) (set_below b.bitmap (t % 256) p.1) (omega (arith, w)) p.1

-- ---- one bit more

first_more : (bitmap : List ℕ) (first bit : ℕ) → first_types bitmap first (bit + 1) ≡ first_types bitmap first bit ++ bit_type bitmap first bit
first_more bitmap first bit = ap (first_types bitmap first) (add-one bit)

pub bits_more : (old items new bitmap : List ℕ) (first bit : ℕ) → items ≡ old ++ first_types bitmap first bit → new ≡ items ++ bit_type bitmap first bit → new ≡ old ++ first_types bitmap first (bit + 1)
bits_more old items new bitmap first bit i n =
    n
    ∙ (ap (λ (x : List ℕ). x ++ bit_type bitmap first bit) i
    ∙ (append_assoc old (first_types bitmap first bit) (bit_type bitmap first bit) ∙ ap (λ (x : List ℕ). old ++ x) (sym (first_more bitmap first bit))))

pub bit_set : (old new bitmap : List ℕ) (first bit : ℕ) → true ≡ has_bit bitmap bit → new ≡ old ++ (first + bit) ∷ [] → new ≡ old ++ bit_type bitmap first bit
bit_set old new bitmap first bit e n = n ∙ ap (λ (b : Bool). old ++ cond b ((first + bit) ∷ []) []) e

pub bit_clear : (old bitmap : List ℕ) (first bit : ℕ) → false ≡ has_bit bitmap bit → old ≡ old ++ bit_type bitmap first bit
bit_clear old bitmap first bit e = sym (append-nil old) ∙ ap (λ (b : Bool). old ++ cond b ((first + bit) ∷ []) []) e
