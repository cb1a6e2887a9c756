-- The first line of a text.
use Rattle.std.proofs.Common.{◌≡◌, ℕ, suc, ◌+◌, ◌-◌, ◌<◌, ◌≤◌, ◌==◌, List, [], ◌∷◌, ◌++◌, length, take, drop, false, refl, ap, sym, ◌∙◌, arith, rules, add-one, drop-cons, zero, subst}
use Rattle.std.proofs.lemmas.List.{take-append-drop, take_rest}
use Rattle.std.proofs.Math.Seq.{take-length}
use Rattle.std.proofs.lemmas.List.Elements.{All-cons}
use Rattle.std.proofs.lemmas.Grind.{common_steps}
use Rattle.std.specs.Prelude.{slice_index}
use Rattle.std.specs.List.{slice_split, All}
use Rattle.std.specs.Str.Lines.{lines, lines_of_parts, strip_carriage_return}
use Rattle.std.proofs.lemmas.List.Splits.{slice_split_at, slice_split_none, length-slice_split}

parts_more : (l : List ℕ) (ps : List (List ℕ)) → 0 < length ps → lines_of_parts (l ∷ ps) ≡ strip_carriage_return l ∷ lines_of_parts ps
parts_more l [] h = absurd (omega arith)
parts_more l (p ∷ ps) h = refl

parts_last : (l : List ℕ) → 0 < length l → lines_of_parts (l ∷ []) ≡ l ∷ []
parts_last l h = let e : (length l == 0) ≡ false = search (rules, h) in rw e refl

-- a text with an end of a line
pub lines_at : (l r : List ℕ) → All (λ b. (b == 10) ≡ false) l → lines (l ++ 10 ∷ r) ≡ strip_carriage_return l ∷ lines r
lines_at l r h =
    let e : slice_split (λ b. b == 10) (l ++ 10 ∷ r) ≡ l ∷ slice_split (λ b. b == 10) r = slice_split_at (λ b. b == 10) l 10 r h refl in
    let n : 0 < length (slice_split (λ b. b == 10) r) = let m = length-slice_split (λ b. b == 10) r in omega arith in
    ap lines_of_parts e ∙ parts_more l (slice_split (λ b. b == 10) r) n

-- a text without one
pub lines_last : (l : List ℕ) → 0 < length l → All (λ b. (b == 10) ≡ false) l → lines l ≡ l ∷ []
lines_last l n h = ap lines_of_parts (slice_split_none (λ b. b == 10) l h) ∙ parts_last l n

no_end : (t : List ℕ) (n : ℕ) → ((k : ℕ) → k < n → slice_index t k ≡ 10 → ⊥) → n ≤ length t → All (λ b. (b == 10) ≡ false) (take n t)
no_end [] n h le = grind (arith, common_steps)
no_end (b ∷ t) zero h le = grind (arith, common_steps)
no_end (b ∷ t) (suc n) h le =
    let here : b ≡ 10 → ⊥ = h 0 (omega arith) in
    let test : (b == 10) ≡ false = search (rules, here) in
    All-cons (λ b. (b == 10) ≡ false) b (take n t) test (no_end t n (λ k lt. h (suc k) (omega arith)) (omega arith))

at_end : (t : List ℕ) (n : ℕ) → n < length t → slice_index t n ≡ 10 → t ≡ take n t ++ 10 ∷ drop (n + 1) t
at_end t n lt e = sym (take-append-drop n t) ∙ rw (drop-cons t n 0 lt, e, add-one) refl

-- a text whose first end of a line stands at n
pub first_line_at : (t l : List ℕ) (n : ℕ) → ((k : ℕ) → k < n → slice_index t k ≡ 10 → ⊥) → n < length t → slice_index t n ≡ 10
    → l ≡ strip_carriage_return (take n t) → lines t ≡ l ∷ lines (take (length t - (n + 1)) (drop (n + 1) t))
first_line_at t l n before lt found el =
    ap lines (at_end t n lt found) ∙ rw (el, take_rest t (n + 1)) (lines_at (take n t) (drop (n + 1) t) (no_end t n before (omega arith)))

-- a text without an end of a line
pub only_line : (t : List ℕ) → ((k : ℕ) → k < length t → slice_index t k ≡ 10 → ⊥) → 0 < length t → lines t ≡ t ∷ lines (take (length t - length t) (drop (length t) t))
only_line t before n =
    let z : length t - length t ≡ 0 = omega arith in
    rw z (lines_last t n (subst (All (λ b. (b == 10) ≡ false)) (take-length t) (no_end t (length t) before (omega arith))))
