-- The readings of a clock in memory.
use Rattle.std.proofs.Common.{◌≡◌, ℕ, List, [], ◌∷◌, ◌++◌, ◌≤◌, ◌<◌, ◌+◌, ◌-◌, take, length, get_or, replicate, arith, sym, append_assoc, append-nil, refl}
use Rattle.std.proofs.lemmas.List.{take_more, take_all, replicate_more}
use Rattle.dns_memory.specs.MemoryForms.{last_reading}

-- a listed reading
pub reading_listed : (l : List (ℕ × ℕ)) (n : ℕ) (r : ℕ × ℕ) → n < length l → r ≡ get_or l n r →
    take (n + 1) l ++ replicate (n + 1 - length l) (last_reading l) ≡ (take n l ++ replicate (n - length l) (last_reading l)) ++ r ∷ []
reading_listed l n r h e =
    let a : n + 1 - length l ≡ 0 = omega arith in
    let b : n - length l ≡ 0 = omega arith in
    rw (a, b, append-nil (take (n + 1) l), append-nil (take n l), take_more l n r h, ← e) refl

-- the last one again
pub reading_again : (l : List (ℕ × ℕ)) (n : ℕ) (r : ℕ × ℕ) → length l ≤ n → r ≡ last_reading l →
    take (n + 1) l ++ replicate (n + 1 - length l) (last_reading l) ≡ (take n l ++ replicate (n - length l) (last_reading l)) ++ r ∷ []
reading_again l n r h e =
    let a : n + 1 - length l ≡ (n - length l) + 1 = omega arith in
    let t : take (n + 1) l ≡ l = take_all (n + 1) l (omega arith) in
    let u : take n l ≡ l = take_all n l h in
    rw (a, t, u, e, ← replicate_more (n - length l) (last_reading l)) (sym (append_assoc l (replicate (n - length l) (last_reading l)) (last_reading l ∷ [])))
