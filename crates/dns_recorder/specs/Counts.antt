-- How many are to be served.
use Rattle.std.specs.Prelude.{◌≢◌, ◌≤◌, ℕ}

-- no more than that many, if the count isn't 0
abbrev pub IsWithinCount : ℕ → ℕ → Type 0
IsWithinCount count number = count ≢ 0 → number ≤ count
