-- When a fault may be answered, and what is told.
use Rattle.std.specs.Prelude.{ℕ, ◌+◌, ◌-◌, ◌^◌, ◌≤◌, min}

-- the count of faults rose, or stands at the last value of its 64 bits
abbrev pub Rose : ℕ → ℕ → Type 0
Rose before now = min (before + 1) (2 ^ 64 - 1) ≤ now

-- if the object tells now, it told before, and the fact holds
pub record Observed (now before fact : Type 0) : Type 0 where
  pub observed : now → before × fact
