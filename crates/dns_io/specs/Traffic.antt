-- How the octets of a link move. In each, a is what the link tells before a call, and b after it.
use Rattle.std.specs.Prelude.{◌≡◌, ℕ, ◌+◌, ◌≤◌, List, ◌++◌, length, take}
use Rattle.dns_io.specs.Causes.{Rose}
use Rattle.dns_io.specs.declared.link.LinkRead.{LinkRead}
use Rattle.dns_io.specs.declared.link.LinkRead.TheVariants.{Got, Again, End, Failed}
use Rattle.dns_io.specs.declared.link.LinkWrite.{LinkWrite}
use Rattle.dns_io.specs.declared.link.LinkWrite.TheVariants.{Took, Again as WriteAgain, Failed as WriteFailed}

-- what a link tells of its calls so far
pub record Traffic : Type 0 where
  pub came : List ℕ  -- the octets read
  pub went : List ℕ  -- the octets written
  pub ends : ℕ  -- the reads that answered End
  pub empty_reads : ℕ  -- the reads that answered Again
  pub full_writes : ℕ  -- the writes that answered Again

-- a read into a buffer that then holds buf: the octets of its front came
abbrev pub LinkReadMoves : LinkRead → List ℕ → Traffic → Traffic → Type 0
LinkReadMoves (Got n) buf a b = b ≡ record a { came = a.came ++ take n buf }
LinkReadMoves Again buf a b = b ≡ record a { empty_reads = a.empty_reads + 1 }
LinkReadMoves End buf a b = b ≡ record a { ends = a.ends + 1 }
LinkReadMoves Failed buf a b = b ≡ a

-- a read fits its buffer, and gives at least one octet if there is room for one
abbrev pub LinkReadBound : LinkRead → List ℕ → Type 0
LinkReadBound (Got n) buf = (n ≤ length buf) × (1 ≤ length buf → 1 ≤ n)
LinkReadBound Again buf = Unit {0}
LinkReadBound End buf = Unit {0}
LinkReadBound Failed buf = Unit {0}

-- the count of faults rises with a failed read, and with no other
abbrev pub LinkReadCause : LinkRead → ℕ → ℕ → Type 0
LinkReadCause (Got n) a b = b ≡ a
LinkReadCause Again a b = b ≡ a
LinkReadCause End a b = b ≡ a
LinkReadCause Failed a b = Rose a b

-- a write of a piece: a front of it went
abbrev pub LinkWriteMoves : LinkWrite → List ℕ → Traffic → Traffic → Type 0
LinkWriteMoves (Took n) piece a b = b ≡ record a { went = a.went ++ take n piece }
LinkWriteMoves WriteAgain piece a b = b ≡ record a { full_writes = a.full_writes + 1 }
LinkWriteMoves WriteFailed piece a b = b ≡ a

-- a write takes no more than its piece, and at least one octet of a piece that is not empty
abbrev pub LinkWriteBound : LinkWrite → List ℕ → Type 0
LinkWriteBound (Took n) piece = (n ≤ length piece) × (1 ≤ length piece → 1 ≤ n)
LinkWriteBound WriteAgain piece = Unit {0}
LinkWriteBound WriteFailed piece = Unit {0}

-- the count of faults rises with a failed write, and with no other
abbrev pub LinkWriteCause : LinkWrite → ℕ → ℕ → Type 0
LinkWriteCause (Took n) a b = b ≡ a
LinkWriteCause WriteAgain a b = b ≡ a
LinkWriteCause WriteFailed a b = Rose a b
