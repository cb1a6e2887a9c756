-- How many works were started, and what those gave that were joined. In each, a is what it was before a call, and b after it.
use Rattle.std.specs.Prelude.{◌≡◌, ℕ, ◌+◌, List, [], ◌∷◌, ◌++◌, length}

-- what was joined, in the order of the joins
pub record Works (G : Type 0) : Type 0 where
  pub started : ℕ
  pub joined : List G

module _ {G : Type 0} where
  abbrev pub no_works : Works G
  no_works = record { started = 0; joined = [] }

  abbrev pub one_started : Works G → Works G
  one_started w = record w { started = w.started + 1 }

  abbrev pub one_joined : G → Works G → Works G
  one_joined gave w = record w { joined = w.joined ++ gave ∷ [] }

  -- so many works were started, and some were joined
  pub record Began (count : ℕ) (a b : Works G) : Type 0 where
    pub more : List G
    pub started : b.started ≡ a.started + count
    pub joined : b.joined ≡ a.joined ++ more

  -- as many were joined as were started
  pub record AllJoined (a b : Works G) : Type 0 where
    pub began : Began 0 a b
    pub as_many : length b.joined ≡ b.started
