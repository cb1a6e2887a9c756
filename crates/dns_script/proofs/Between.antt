-- The words between two places of a line.
use Rattle.std.proofs.Common.{◌≡◌, ℕ, suc, ◌+◌, ◌-◌, ◌<◌, ◌≤◌, Bool, true, List, [], ◌∷◌, length, take, drop, get_or, refl, ap, ◌∙◌, arith, drop-cons}
use Rattle.std.specs.List.{list_all}
use Rattle.std.specs.Prelude.{◌&&◌}

-- the first of those that are left, and the others
pub between_step : (p : List ℕ → Bool) (ws : List (List ℕ)) (i : ℕ) → i < length ws - 1
    → list_all p (take (length ws - (i + 1)) (drop i ws)) ≡ (p (get_or ws i []) && list_all p (take (length ws - (i + 1 + 1)) (drop (i + 1) ws)))
between_step p ws i lt =
    let n : length ws - (i + 1) ≡ suc (length ws - (i + 1 + 1)) = omega arith in
    let l : i < length ws = omega arith in
    let s : suc i ≡ i + 1 = omega arith in
    let d : drop i ws ≡ get_or ws i [] ∷ drop (suc i) ws = drop-cons ws i [] l in
    let t : drop i ws ≡ get_or ws i [] ∷ drop (i + 1) ws = d ∙ ap (λ k. get_or ws i [] ∷ drop k ws) s in
    ap (λ k. list_all p (take k (drop i ws))) n ∙ ap (λ more. list_all p (take (suc (length ws - (i + 1 + 1))) more)) t

-- none is left
pub between_end : (p : List ℕ → Bool) (ws : List (List ℕ)) (i : ℕ) → length ws ≤ i + 1 → list_all p (take (length ws - (i + 1)) (drop i ws)) ≡ true
between_end p ws i le =
    let n : length ws - (i + 1) ≡ 0 = omega arith in
    rw n refl
