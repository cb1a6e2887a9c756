-- What noted events say of the link, and what one event does to it. Here a is what the link tells before, and b after it.
use Rattle.std.specs.Prelude.{◌≡◌, ◌≤◌, ◌<◌, ◌-◌, ℕ, ◌+◌, List, [], ◌∷◌, ◌++◌, length, take}
use Rattle.dns_io.specs.Traffic.{Traffic}
use Rattle.dns_events.specs.declared.event.Event.{Event}
use Rattle.dns_events.specs.declared.event.EventKind.{EventKind}
use Rattle.dns_events.specs.declared.event.EventKind.TheVariants.{Piece, Write, End, Fault, Tick}
use Rattle.dns_events.specs.declared.event.Output.{Output}
use Rattle.dns_events.specs.declared.event.Output.TheVariants.{Frame}
use Rattle.dns_recorder.specs.Clocks.{ClockReading, Waited, LateAt}
use Rattle.dns_stream_driver.specs.declared.writing.WriteEnd.{WriteEnd}
use Rattle.dns_stream_driver.specs.declared.writing.WriteEnd.TheVariants.{Whole, Failed, Late}

-- the octets of the pieces among some events
abbrev pub piece_octets : EventKind → List ℕ
piece_octets (Piece o) = o
piece_octets _ = []

abbrev pub pieces_in : List Event → List ℕ
pieces_in [] = []
pieces_in (e ∷ es) = piece_octets e.kind ++ pieces_in es

-- each piece has an octet
abbrev pub PieceHasOctet : EventKind → Type 0
PieceHasOctet (Piece o) = 1 ≤ length o
PieceHasOctet _ = Unit {0}

abbrev pub AllFull : List Event → Type 0
AllFull [] = Unit {0}
AllFull (e ∷ es) = PieceHasOctet e.kind × AllFull es

-- the Ticks among some events, and the Ends
abbrev pub tick_count : EventKind → ℕ
tick_count Tick = 1
tick_count _ = 0

abbrev pub ticks_in : List Event → ℕ
ticks_in [] = 0
ticks_in (e ∷ es) = tick_count e.kind + ticks_in es

abbrev pub end_count : EventKind → ℕ
end_count End = 1
end_count _ = 0

abbrev pub ends_in : List Event → ℕ
ends_in [] = 0
ends_in (e ∷ es) = end_count e.kind + ends_in es

-- the octets of the frames among some outputs
abbrev pub frame_of : Output → List ℕ
frame_of (Frame client octets) = octets
frame_of _ = []

abbrev pub frame_octets : List Output → List ℕ
frame_octets [] = []
frame_octets (o ∷ os) = frame_of o ++ frame_octets os

-- the frame that stands first in a queue, or nothing
abbrev pub front : List (List ℕ) → List ℕ
front [] = []
front (m ∷ ms) = m

-- a part of the frame that stands first
pub record IsFrontCut (queue : List (List ℕ)) (extra : List ℕ) : Type 0 where
  pub written : ℕ
  pub is : extra ≡ take written (front queue)

-- n octets of the piece were written
pub record WroteFront (n : ℕ) (piece : List ℕ) (a b : Traffic) : Type 0 where
  pub came : b.came ≡ a.came
  pub went : b.went ≡ a.went ++ take n piece
  pub ticks : b.empty_reads ≡ a.empty_reads
  pub ends : b.ends ≡ a.ends

-- how much of that many octets is written at each end
abbrev pub EndsWriting : WriteEnd → ℕ → ℕ → ℕ → ℕ → Type 0
EndsWriting Whole done size start limit = size ≤ done
EndsWriting Failed done size start limit = done ≤ size
EndsWriting (Late at secs) done size start limit = limit < at - start

-- the writing of a frame ended so, with a front of it written
pub record WroteUntil (end : WriteEnd) (frame : List ℕ) (start limit : ℕ) (a b : Traffic) : Type 0 where
  pub written : ℕ
  pub front : WroteFront written frame a b
  pub bound : EndsWriting end written (length frame) start limit

-- one reading for each write that answered Again, of which the last is that of a late end
abbrev pub WaitedTo : WriteEnd → ℕ → ℕ → List ClockReading → List ClockReading → Type 0
WaitedTo Whole again again' c c' = Waited again again' c c'
WaitedTo Failed again again' c c' = Waited again again' c c'
WaitedTo (Late at secs) again again' c c' = LateAt (at, secs) again again' c c'

-- what was written for an event: a part of the first frame, and the whole if a Write stands within the limit
pub record WritesPart (took : ℕ) (queue : List (List ℕ)) (limit : ℕ) (part : List ℕ) : Type 0 where
  pub written : ℕ
  pub is : part ≡ take written (front queue)
  pub whole : took ≤ limit → length (front queue) ≤ written

pub record FailsPart (queue : List (List ℕ)) (part : List ℕ) : Type 0 where
  pub written : ℕ
  pub is : part ≡ take written (front queue)

abbrev pub WrittenPart : EventKind → List (List ℕ) → ℕ → List ℕ → Type 0
WrittenPart (Write took) queue limit part = WritesPart took queue limit part
WrittenPart Fault queue limit part = FailsPart queue part
WrittenPart _ queue limit part = part ≡ []

-- what an event did to the link, at a queue and a limit of the time that a write may take
pub record MovedBy (kind : EventKind) (queue : List (List ℕ)) (limit : ℕ) (a b : Traffic) : Type 0 where
  pub part : List ℕ
  pub came : b.came ≡ a.came ++ piece_octets kind
  pub full : PieceHasOctet kind
  pub ticks : b.empty_reads ≡ a.empty_reads + tick_count kind
  pub ends : b.ends ≡ a.ends + end_count kind
  pub went : b.went ≡ a.went ++ part
  pub part_is : WrittenPart kind queue limit part

-- a Write or a Fault
abbrev pub IsWrittenEvent : EventKind → Type 0
IsWrittenEvent (Write took) = Unit {0}
IsWrittenEvent Fault = Unit {0}
IsWrittenEvent _ = ⊥

-- a Piece, an End, a Tick or a Fault
abbrev pub IsReadEvent : EventKind → Type 0
IsReadEvent (Piece o) = Unit {0}
IsReadEvent End = Unit {0}
IsReadEvent Tick = Unit {0}
IsReadEvent Fault = Unit {0}
IsReadEvent _ = ⊥

-- octets were read, for which there was no memory
pub record Unread (a b : Traffic) : Type 0 where
  pub unread : List ℕ
  pub came : b.came ≡ a.came ++ unread
  pub went : b.went ≡ a.went
