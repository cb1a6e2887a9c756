-- What the adapters over a reader and a writer of std answer. Std has to know the octets that a reader has left and a writer holds.
use Rattle.std.specs.Prelude.{ℕ, List, Option, take}
use Rattle.std.specs.Io.KnownBytes.{Keeps, Consumes, Appends, IsAtEnd}
use Rattle.dns_io.specs.declared.source.SourceRead.{SourceRead}
use Rattle.dns_io.specs.declared.source.SourceRead.TheVariants.{Got, End, Failed}
use Rattle.dns_io.specs.declared.sink.SinkWrite.{SinkWrite}
use Rattle.dns_io.specs.declared.sink.SinkWrite.TheVariants.{Took, Failed as WriteFailed}

-- a read into a buffer that then holds buf, with a known to be left before it and b after it
abbrev pub ReadsOf : SourceRead → List ℕ → Option (List ℕ) → Option (List ℕ) → Type 0
ReadsOf (Got n) buf a b = Consumes a b (take n buf)
ReadsOf End buf a b = Keeps a b × IsAtEnd b
ReadsOf Failed buf a b = Keeps a b

-- a write of a piece, with a known to be held before it and b after it
abbrev pub WritesTo : SinkWrite → List ℕ → Option (List ℕ) → Option (List ℕ) → Type 0
WritesTo (Took n) piece a b = Appends a b (take n piece)
WritesTo WriteFailed piece a b = Keeps a b
