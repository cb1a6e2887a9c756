-- Pieces that are read.
use Rattle.std.proofs.Common.{◌≡◌, ℕ, List, ◌++◌, ◌≤◌, ◌+◌, ◌-◌, take, drop, length, arith, sym}
use Rattle.std.proofs.Math.Seq.{take-add}
use Rattle.std.proofs.lemmas.List.{take_at, take-append-drop, drop-drop}
use Rattle.std.proofs.lemmas.Grind.{common_steps}

pub next_piece : (input new buf : List ℕ) (p n : ℕ) → new ≡ take (p + n - p) (drop p input) → n ≤ length input - p →
    drop p input ≡ take n (new ++ drop n buf) ++ drop (p + n) input
next_piece input new buf p n e fits =
    let s : p + n - p ≡ n = omega arith in
    let e2 : new ≡ take n (drop p input) = rw s at e in
    let len : length new ≡ n = grind (arith, common_steps) in
    rw (take_at new (drop n buf) n len, e2, ← drop-drop n p input) (sym (take-append-drop n (drop p input)))

-- what came before, and the piece that is read next
pub next_came : (input new buf : List ℕ) (p n : ℕ) → new ≡ take (p + n - p) (drop p input) → n ≤ length input - p →
    take (p + n) input ≡ take p input ++ take n (new ++ drop n buf)
next_came input new buf p n e fits =
    let s : p + n - p ≡ n = omega arith in
    let e2 : new ≡ take n (drop p input) = rw s at e in
    let len : length new ≡ n = grind (arith, common_steps) in
    rw (take_at new (drop n buf) n len, e2) (take-add p n input)
