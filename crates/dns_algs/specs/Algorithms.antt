-- Lists of algorithms (RFC 6975): their text, and how one is collected.
use Rattle.std.specs.Prelude.{ℕ, ◌≤◌, ◌<◌, List, [], ◌∷◌, ◌++◌, length, Option, Result, Ok, Err}
use Rattle.std.specs.Fmt.{decimal}
use Rattle.std.specs.declared.vec.Vec.{Vec}
use Rattle.std.specs.declared.alloc.Global.{Global}
use Rattle.std.specs.Iterator.{Drains, Yields}
use Rattle.dns_name.specs.declared.opt_error.BuildDataError.{BuildDataError}
use Rattle.dns_name.specs.declared.opt_error.BuildDataError.TheVariants.{LongOptData, WrongLength, ShortBuf, OutOfMemory as NoMemory}

-- numbers in decimal, each after a comma and a space
abbrev pub more_algorithms_text : List ℕ → List ℕ
more_algorithms_text [] = []
more_algorithms_text (a ∷ more) = 44 ∷ 32 ∷ (decimal a ++ more_algorithms_text more)

-- numbers in decimal, joined by a comma and a space
abbrev pub algorithms_text : List ℕ → List ℕ
algorithms_text [] = []
algorithms_text (a ∷ more) = decimal a ++ more_algorithms_text more

-- what comes of the algorithms that an iterator gives: all of them, or a refusal exactly if they are more than 65,535, or out of memory
abbrev pub Collected : {S : Type 0} → (S → Option ℕ → S → Type 0) → S → Result (List ℕ) BuildDataError → Type 0
Collected steps s (Ok k) = Drains steps s k × (length k ≤ 65535)
Collected {S} steps s (Err LongOptData) = (xs : List ℕ) × (t : S) × Yields steps s xs t × (65535 < length xs)
Collected steps s (Err NoMemory) = Unit {0}
Collected steps s (Err (WrongLength a b)) = ⊥
Collected steps s (Err ShortBuf) = ⊥

-- what an iterator gives is collected, if the iterator is made of this value
abbrev pub CollectedFrom : {A S : Type 0} → (A → S → Type 0) → (S → Option ℕ → S → Type 0) → A → Result (List ℕ) BuildDataError → Type 0
CollectedFrom {A} {S} makes steps a result = (s : S) × makes a s × Collected steps s result

-- what an iterator gives is collected as the numbers in a vector
abbrev pub CollectedNumbers : {S : Type 0} → (S → Option ℕ → S → Type 0) → S → Result (Vec ℕ Global) BuildDataError → Type 0
CollectedNumbers steps s (Ok v) = Collected steps s (Ok v.items)
CollectedNumbers steps s (Err e) = Collected steps s (Err e)
