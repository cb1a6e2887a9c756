-- Objects that a caller gives, or doesn't.
use Rattle.std.proofs.Common.{◌<◌, ◌≤◌, List, [], ◌∷◌, length, slice_set, slice_index_or, refl, arith}
use Rattle.nutscythe_c.specs.Objects.{OfFirst, OfOne}

-- the first of a list that has one, and what is written in its place
pub of_first : {A : Type 0} (xs : List A) (d y : A) (given : A → A → Type 0) (missing : Type 0) → 1 ≤ length xs → given (slice_index_or xs 0 d) y
    → OfFirst xs (slice_set xs 0 y) given missing
of_first [] d y given missing some fact = absurd (omega (arith, some))
of_first (h ∷ hs) d y given missing some fact = (y, refl, fact)

-- the first of a list that has one, and which is left
pub of_left : {A : Type 0} (xs : List A) (d : A) (given : A → A → Type 0) (missing : Type 0) → 1 ≤ length xs → ((z : A) → given z z)
    → OfFirst xs (slice_set xs 0 (slice_index_or xs 0 d)) given missing
of_left [] d given missing some fact = absurd (omega (arith, some))
of_left (h ∷ hs) d given missing some fact = (h, refl, fact h)

-- the first of a list that has one, and is read
pub of_one : {A : Type 0} (xs : List A) (d : A) (given : A → Type 0) (missing : Type 0) → 1 ≤ length xs → given (slice_index_or xs 0 d) → OfOne xs given missing
of_one [] d given missing some fact = absurd (omega (arith, some))
of_one (h ∷ hs) d given missing some fact = fact

-- a list that has none
pub of_none : {A : Type 0} (xs : List A) (given : A → Type 0) (missing : Type 0) → length xs < 1 → missing → OfOne xs given missing
of_none [] given missing none fact = fact
of_none (h ∷ hs) given missing none fact = absurd (omega (arith, none))
