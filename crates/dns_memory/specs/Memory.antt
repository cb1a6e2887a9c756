-- Sources and sinks in memory, as contracts see them, and the size of a piece.
use Rattle.std.specs.Prelude.{◌≡◌, ℕ, ◌+◌, ◌-◌, ◌^◌, List, [], Bool, min, max, length}
use Rattle.dns_io.specs.declared.source.SourceRead.{SourceRead}
use Rattle.dns_io.specs.declared.source.SourceRead.TheVariants.{Got, End, Failed}
use Rattle.dns_io.specs.declared.sink.SinkWrite.{SinkWrite}
use Rattle.dns_io.specs.declared.sink.SinkWrite.TheVariants.{Took, Failed as WriteFailed}

-- a source in memory
pub record Supply : Type 0 where
  pub left : List ℕ  -- the octets left
  pub most : ℕ  -- the most octets of one call
  pub failing : List ℕ  -- the numbers of the calls that fail, from 0
  pub calls : ℕ  -- the calls so far
  pub faults : ℕ  -- the failed ones among them

-- a sink in memory
pub record Store : Type 0 where
  pub taken : List ℕ  -- the octets taken
  pub most : ℕ  -- the most octets of one call
  pub failing : List ℕ  -- the numbers of the calls that fail, from 0
  pub calls : ℕ  -- the calls so far
  pub faults : ℕ  -- the failed ones among them

-- one call more, up to the last value of 64 bits
abbrev pub next : ℕ → ℕ
next calls = min (calls + 1) (2 ^ 64 - 1)

-- how many of n octets one call moves: at most that many, and at least one
abbrev pub moved_at_once : ℕ → ℕ → ℕ
moved_at_once most n = min n (max most 1)

-- a read into so much room, with the source a before it and b after it
abbrev pub Supplies : SourceRead → ℕ → Supply → Supply → Type 0
Supplies (Got n) room a b = (n ≡ moved_at_once a.most (min (length a.left) room)) × (b.faults ≡ a.faults)
Supplies End room a b = (a.left ≡ []) × (b.faults ≡ a.faults)
Supplies Failed room a b = b.faults ≡ next a.faults

-- a write of a piece of that many octets, with the sink a before it and b after it
abbrev pub Stores : SinkWrite → ℕ → Store → Store → Type 0
Stores (Took n) size a b = (n ≡ moved_at_once a.most size) × (b.faults ≡ a.faults)
Stores WriteFailed size a b = b.faults ≡ next a.faults

-- a sink of which no call fails: what it keeps, and whether that is all that was taken
pub record KeptOctets : Type 0 where
  pub taken : List ℕ
  pub whole : Bool
