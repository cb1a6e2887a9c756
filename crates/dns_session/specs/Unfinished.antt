-- What is kept of the requests of a connection that aren't done, by number.
use Rattle.std.specs.Prelude.{◌≡◌, ◌≢◌, ℕ, ◌+◌, ◌-◌, ◌<◌, ◌≤◌, length, slice_get, nat_lt, if◌then◌else◌, IsSome, Option, Some, None}
use Rattle.std.specs.Ordering.{nat_cmp}
use Rattle.std.specs.BTreeMap.{get}
use Rattle.dns_session.specs.declared.unfinished.Unfinished.{Unfinished}

-- from number n on, the first number under which something is kept, if there is one
abbrev pub IsFirstFrom : {Q : Type 0} → ℕ → (ℕ → Option Q) → Option ℕ → Type 0
IsFirstFrom n kept None = (k : ℕ) → n ≤ k → kept k ≡ None
IsFirstFrom n kept (Some m) = (n ≤ m) × IsSome (kept m) × ((k : ℕ) → n ≤ k → k < m → kept k ≡ None)

module _ {Q : Type 0} where
  -- the row ends with the request that was made last
  abbrev pub row_start : Unfinished Q → ℕ
  row_start u = u.count - length u.row.items

  -- what is kept under a number: before the row, what was passed by; from there on, what stands in the row
  unfoldable pub request_at : Unfinished Q → ℕ → Option Q
  request_at u k = if nat_lt k (row_start u) then get nat_cmp u.passed k else slice_get u.row.items (k - row_start u)

  -- no more stand in the row than were made, and what was passed by is before the row
  pub record IsInOrder (u : Unfinished Q) : Type 0 where
    pub row : length u.row.items ≤ u.count
    pub passed : (k : ℕ) → row_start u ≤ k → get nat_cmp u.passed k ≡ None

  -- from old to new, only what is kept under one number may become another
  pub record ChangesAt (k : ℕ) (old new : Unfinished Q) : Type 0 where
    pub in_order : IsInOrder new
    pub count : new.count ≡ old.count
    pub others : (q : ℕ) → q ≢ k → request_at new q ≡ request_at old q

  -- a request is entered under the next number
  pub record Entered (old : Unfinished Q) (kept : Q) (new : Unfinished Q) : Type 0 where
    pub in_order : IsInOrder new
    pub here : request_at new old.count ≡ Some kept
    pub others : (q : ℕ) → q ≢ old.count → request_at new q ≡ request_at old q

  pub record Enters (old : Unfinished Q) (kept : Q) (new : Unfinished Q) : Type 0 where
    pub count : new.count ≡ old.count + 1
    pub entered : IsInOrder old → Entered old kept new

  -- every number has the request that it had
  pub record IsSame (old new : Unfinished Q) : Type 0 where
    pub in_order : IsInOrder new
    pub count : new.count ≡ old.count
    pub same : (q : ℕ) → request_at new q ≡ request_at old q

  -- n entries of the row are passed by, and every number has the request that it had
  pub record PassesBy (old : Unfinished Q) (n : ℕ) (new : Unfinished Q) : Type 0 where
    pub shorter : length new.row.items + n ≡ length old.row.items
    pub same : IsInOrder old → IsSame old new

  -- a request is let go, and what is kept under the other numbers stays
  pub record LetsGo (old : Unfinished Q) (k : ℕ) (new : Unfinished Q) : Type 0 where
    pub here : IsInOrder old → request_at new k ≡ None
    pub others : IsInOrder old → ChangesAt k old new
