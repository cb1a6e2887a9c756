-- How the octets of a source and of a sink move. In each, a is what was left or taken before a call, and b after it.
use Rattle.std.specs.Prelude.{◌≡◌, ℕ, ◌+◌, ◌≤◌, List, [], ◌++◌, length, take, Result, Ok, Err}
use Rattle.dns_io.specs.Causes.{Rose}
use Rattle.dns_io.specs.declared.source.SourceRead.{SourceRead}
use Rattle.dns_io.specs.declared.source.SourceRead.TheVariants.{Got, End, Failed}
use Rattle.dns_io.specs.declared.source.ReadError.{ReadError}
use Rattle.dns_io.specs.declared.source.ReadError.TheVariants.{OutOfMemory, Fault, TooLong}
use Rattle.dns_io.specs.declared.sink.SinkWrite.{SinkWrite}
use Rattle.dns_io.specs.declared.sink.SinkWrite.TheVariants.{Took, Failed as WriteFailed}
use Rattle.dns_io.specs.declared.sink.WriteFault.{WriteFault}
use Rattle.dns_io.specs.declared.source.TheConstants.{LIMIT}

-- a read takes the front of what is left, and the buffer then holds it; End comes only if nothing is left
abbrev pub ReadMoves : SourceRead → List ℕ → List ℕ → List ℕ → Type 0
ReadMoves (Got n) buf a b = a ≡ take n buf ++ b
ReadMoves End buf a b = (a ≡ []) × (b ≡ [])
ReadMoves Failed buf a b = b ≡ a

-- a read fits its buffer, and gives at least one octet if there is room for one
abbrev pub ReadBound : SourceRead → List ℕ → Type 0
ReadBound (Got n) buf = (n ≤ length buf) × (1 ≤ length buf → 1 ≤ n)
ReadBound End buf = Unit {0}
ReadBound Failed buf = Unit {0}

-- the count of faults rises with a failed read, and with no other
abbrev pub ReadCause : SourceRead → ℕ → ℕ → Type 0
ReadCause (Got n) a b = b ≡ a
ReadCause End a b = b ≡ a
ReadCause Failed a b = Rose a b

-- a write appends a front of its piece to what was taken
abbrev pub WriteMoves : SinkWrite → List ℕ → List ℕ → List ℕ → Type 0
WriteMoves (Took n) piece a b = b ≡ a ++ take n piece
WriteMoves WriteFailed piece a b = b ≡ a

-- a write takes no more than its piece, and at least one octet of a piece that is not empty
abbrev pub WriteBound : SinkWrite → List ℕ → Type 0
WriteBound (Took n) piece = (n ≤ length piece) × (1 ≤ length piece → 1 ≤ n)
WriteBound WriteFailed piece = Unit {0}

-- the count of faults rises with a failed write, and with no other
abbrev pub WriteCause : SinkWrite → ℕ → ℕ → Type 0
WriteCause (Took n) a b = b ≡ a
WriteCause WriteFailed a b = Rose a b

-- that many octets were read of a, and b is left
pub record ReadExactly (count : ℕ) (a b : List ℕ) : Type 0 where
  pub got : List ℕ
  pub front : a ≡ got ++ b
  pub count_is : length got ≡ count

-- at most that many octets were read of a, and b is left
pub record ReadAtMost (most : ℕ) (a b : List ℕ) : Type 0 where
  pub got : List ℕ
  pub front : a ≡ got ++ b
  pub few : length got ≤ most

-- what reading a whole source answers: all octets, or why there are none
abbrev pub ReadTo : {V : Type 0} → (V → List ℕ) → Result V ReadError → List ℕ → List ℕ → Type 0
ReadTo items (Ok v) a b = (a ≡ items v) × (b ≡ [])
ReadTo items (Err TooLong) a b = ReadExactly (LIMIT + 1) a b
ReadTo items (Err OutOfMemory) a b = ReadAtMost (LIMIT + 1) a b
ReadTo items (Err Fault) a b = ReadAtMost LIMIT a b

-- the count of faults rises if reading a whole source answers Fault, and only then
abbrev pub ReadAllCause : {V : Type 0} → Result V ReadError → ℕ → ℕ → Type 0
ReadAllCause (Ok v) a b = b ≡ a
ReadAllCause (Err Fault) a b = Rose a b
ReadAllCause (Err OutOfMemory) a b = b ≡ a
ReadAllCause (Err TooLong) a b = b ≡ a

-- b is a and a front of the piece
pub record Cut (piece a b : List ℕ) : Type 0 where
  pub written : List ℕ
  pub rest : List ℕ
  pub whole : written ++ rest ≡ piece
  pub appended : b ≡ a ++ written

-- what writing a whole piece answers: all of it was taken, or a front
abbrev pub WroteAll : Result (Unit {0}) WriteFault → List ℕ → List ℕ → List ℕ → Type 0
WroteAll (Ok u) piece a b = b ≡ a ++ piece
WroteAll (Err e) piece a b = Cut piece a b

-- the count of faults rises if writing a whole piece answers its error, and only then
abbrev pub WroteAllCause : Result (Unit {0}) WriteFault → ℕ → ℕ → Type 0
WroteAllCause (Ok u) a b = b ≡ a
WroteAllCause (Err e) a b = Rose a b
