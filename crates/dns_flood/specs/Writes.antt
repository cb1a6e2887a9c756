-- What writing a text answers. In each, a is what the sink has taken before, and b what it has taken after.
use Rattle.std.specs.Prelude.{◌≡◌, ℕ, List, ◌++◌, Result, Ok, Err}
use Rattle.dns_io.specs.Causes.{Rose}
use Rattle.dns_io.specs.Moves.{Cut}
use Rattle.dns_flood.specs.declared.writing.WriteError.{WriteError}
use Rattle.dns_flood.specs.declared.writing.WriteError.TheVariants.{OutOfMemory, Fault}

-- all of the text was taken, or a front of it
abbrev pub Wrote : Result (Unit {0}) WriteError → List ℕ → List ℕ → List ℕ → Type 0
Wrote (Ok u) text a b = b ≡ a ++ text
Wrote (Err OutOfMemory) text a b = Cut text a b
Wrote (Err Fault) text a b = Cut text a b

-- the count of faults rises with the error Fault, and with no other answer
abbrev pub WroteFaults : Result (Unit {0}) WriteError → ℕ → ℕ → Type 0
WroteFaults (Ok u) a b = b ≡ a
WroteFaults (Err OutOfMemory) a b = b ≡ a
WroteFaults (Err Fault) a b = Rose a b

-- of a text the sink took the front, and the rest is kept back
pub record Pending (rest text a b : List ℕ) : Type 0 where
  pub written : List ℕ
  pub appended : b ≡ a ++ written
  pub whole : written ++ rest ≡ text

-- a text that is kept back was written or is still kept back, or a front of it was written
abbrev pub Pours : {E : Type 0} → Result (Unit {0}) E → List ℕ → List ℕ → List ℕ → List ℕ → Type 0
Pours (Ok u) text rest a b = Pending rest text a b
Pours (Err e) text rest a b = Cut text a b
