-- What the reads of a link without responses give. In each, a is what there was before a call, and b after it.
use Rattle.std.specs.Prelude.{◌≡◌, ℕ, ◌+◌, ◌-◌, ◌^◌, ◌<◌, ◌≤◌, Bool, true, false, List, [], ◌++◌, drop, length, min, take}
use Rattle.dns_framing.specs.Frames.{behind_frames}
use Rattle.dns_io.specs.Traffic.{Traffic}
use Rattle.dns_io.specs.declared.link.LinkRead.{LinkRead}
use Rattle.dns_io.specs.declared.link.LinkRead.TheVariants.{Got, Again, End, Failed}
use Rattle.dns_query_link.specs.QueryFrames.{Buffered, nothing_held, passed_on, with_piece}

-- what is held of the octets that came, how many reads gave nothing of what came, and whether memory ran out
pub record Reads : Type 0 where
  pub held : Buffered
  pub vain : ℕ
  pub ended : Bool

abbrev pub no_reads : Reads
no_reads = record { held = nothing_held; vain = 0; ended = false }

-- octets came; without memory nothing is said but that it ran out
abbrev pub Takes : List ℕ → Reads → Reads → Type 0
Takes piece a b = b.ended ≡ false → b ≡ record a { held = with_piece piece a.held }

-- n octets that waited were given, at the front of a buffer
pub record GivesSome (n : ℕ) (buf : List ℕ) (a b : Reads) : Type 0 where
  pub waiting : a.held.waiting ≡ take n buf ++ b.held.waiting
  pub kept : b.held.kept ≡ a.held.kept
  pub vain : b.vain ≡ a.vain
  pub ended : b.ended ≡ a.ended

-- what a read gives: octets that wait; Again if none do, and End if memory ran out
abbrev pub Gives : LinkRead → List ℕ → Reads → Reads → Type 0
Gives (Got n) buf a b = GivesSome n buf a b
Gives Again buf a b = (a.ended ≡ false) × (a.held.waiting ≡ []) × (b ≡ record a { vain = min (a.vain + 1) (2 ^ 64 - 1) })
Gives End buf a b = (a.ended ≡ true) × (b ≡ a)
Gives Failed buf a b = ⊥

-- ---- over a link, of which `before` came before it was taken

abbrev pub came_since : List ℕ → List ℕ → List ℕ
came_since before came = drop (length before) came

-- of the queries that came whole since then, those octets that don't wait any more
abbrev pub given_since : List ℕ → List ℕ → List ℕ → List ℕ
given_since before came waiting =
    let passed = passed_on (came_since before came) in take (length passed - length waiting) passed

-- what is held is of what came since: what is in no whole frame is kept, and the last octets of the queries wait
pub record IsTied (before came : List ℕ) (h : Buffered) : Type 0 where
  pub since : came ≡ before ++ came_since before came
  pub kept : h.kept ≡ behind_frames (came_since before came)
  pub waiting : passed_on (came_since before came) ≡ given_since before came h.waiting ++ h.waiting

-- if the link tells and memory never ran out, what is held is of what came since
pub record Ties (observed : Type 0) (before : List ℕ) (t : Traffic) (r : Reads) : Type 0 where
  pub ties : observed → r.ended ≡ false → IsTied before t.came r.held

-- that memory never ran out, and the count of reads stands below its end
abbrev pub IsCounted : Reads → Type 0
IsCounted r = (r.ended ≡ false) × (r.vain < 2 ^ 64 - 1)

-- what the link tells, without the responses that came since: of the octets that came only those of queries that were given, and a read
-- that gave nothing of what came found none
abbrev pub without_responses : List ℕ → Reads → Traffic → Traffic
without_responses before r t = record t {
  came = before ++ given_since before t.came r.held.waiting;
  empty_reads = t.empty_reads + r.vain;
}

-- a read that gives no octets leaves none that wait
abbrev pub LeavesNone : LinkRead → Reads → Type 0
LeavesNone (Got n) r = Unit {0}
LeavesNone Again r = r.ended ≡ false → r.held.waiting ≡ []
LeavesNone End r = r.ended ≡ false → r.held.waiting ≡ []
LeavesNone Failed r = r.ended ≡ false → r.held.waiting ≡ []

-- Again comes only if the link itself was read, and answered so or gave octets
abbrev pub WasAsked : LinkRead → List ℕ → Traffic → Traffic → Type 0
WasAsked (Got n) buf a b = Unit {0}
WasAsked Again buf a b = 1 ≤ length buf → length a.came + a.empty_reads + 1 ≤ length b.came + b.empty_reads
WasAsked End buf a b = Unit {0}
WasAsked Failed buf a b = Unit {0}
