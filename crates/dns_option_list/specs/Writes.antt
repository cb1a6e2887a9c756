-- What a writer writes.
use Rattle.std.specs.Prelude.{◌≡◌, ◌≢◌, ℕ, ⊤, List, [], length, Result, Ok, Err}
use Rattle.std.specs.Fn.{Once}
use Rattle.std.specs.Borrow.{MutBor}
use Rattle.std.specs.declared.vec.Vec.{Vec}
use Rattle.std.specs.declared.alloc.Global.{Global}
use Rattle.dns_name.specs.declared.error.OutOfMemory.{OutOfMemory}

-- called with an empty vector, the writer may succeed and leave these octets there
pub record Writes {F : Type 0} (g : Once F (MutBor (Vec ℕ Global) × Unit {0})
    (Result ⊤ OutOfMemory × (MutBor (Vec ℕ Global) × Unit {0}))) (f : F) (d : List ℕ) : Type 0 where
  pub shown : MutBor (Vec ℕ Global)
  pub empty : shown.now.items ≡ []
  pub left : MutBor (Vec ℕ Global)
  pub met : g.post f (shown, tt) (Ok tt, (left, tt))
  pub leaves : left.now.items ≡ d

-- what was written, as many octets as were stated, or another number of them
abbrev pub WroteStated : (List ℕ → Type 0) → ℕ → Result (Vec ℕ Global) (Vec ℕ Global) → Type 0
WroteStated writes n (Ok v) = writes v.items × (length v.items ≡ n)
WroteStated writes n (Err v) = writes v.items × (length v.items ≢ n)
