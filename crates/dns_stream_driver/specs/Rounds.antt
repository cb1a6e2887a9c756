-- The order of a connection's own events. In a round the queue is written until it is empty. Then each unfinished request has one
-- Turn, by rising number, and after each of them the queue is written until it is empty. Then comes one Piece, End or Tick.
use Rattle.std.specs.Prelude.{◌≡◌, ◌⊎◌, ◌≤◌, ℕ, ◌+◌, List, [], ◌∷◌, length, drop, Option, Some, None}
use Rattle.dns_events.specs.declared.event.Event.{Event}
use Rattle.dns_events.specs.declared.event.EventKind.{EventKind}
use Rattle.dns_events.specs.declared.event.EventKind.TheVariants.{Piece, Turn, Write, End, Fault, Tick, Reconfigure, Shutdown}
use Rattle.dns_session.specs.Serving.{Serving}
use Rattle.dns_session.specs.Slate.{Slate, SlateRequest}
use Rattle.dns_session.specs.Rule.{rule}
use Rattle.dns_session.specs.Waiting.{first_unfinished_from}

-- the first request that isn't done, of those from a number on
abbrev pub next_turn : ℕ → List SlateRequest → Option ℕ
next_turn below rs = first_unfinished_from below (drop below rs)

-- the number below which requests had their turn, by the last one that had
abbrev pub below_of : Option ℕ → ℕ
below_of None = 0
below_of (Some k) = k + 1

-- a frame is to be written; request k is to be polled; all is written and polled
abbrev pub IsWriting : Slate → Type 0
IsWriting s = 1 ≤ length s.queue

abbrev pub IsTurnOf : ℕ → ℕ → Slate → Type 0
IsTurnOf below k s = (s.queue ≡ []) × (next_turn below s.requests ≡ Some k)

abbrev pub IsRoundOver : ℕ → Slate → Type 0
IsRoundOver below s = (s.queue ≡ []) × (next_turn below s.requests ≡ None)

-- the event may come now, in a round in which the requests below a number had their turn; one that all hear always may
abbrev pub May : ℕ → EventKind → Slate → Type 0
May below (Write took) s = IsWriting s
May below (Turn k) s = IsTurnOf below k s
May below (Piece o) s = IsRoundOver below s
May below End s = IsRoundOver below s
May below Tick s = IsRoundOver below s
May below Fault s = IsWriting s ⊎ IsRoundOver below s
May below (Reconfigure dgram stream) s = Unit {0}
May below Shutdown s = Unit {0}
May below _ s = ⊥

-- below which number the requests had their turn after the event
abbrev pub turned : ℕ → EventKind → ℕ
turned below (Turn k) = k + 1
turned below (Piece o) = 0
turned below End = 0
turned below Tick = 0
turned below _ = below

abbrev pub turned_all : ℕ → List Event → ℕ
turned_all below [] = below
turned_all below (e ∷ es) = turned_all (turned below e.kind) es

-- each event may come at the slate after those before it
abbrev pub Rounds : Serving → ℕ → Slate → List Event → Type 0
Rounds answers below s [] = Unit {0}
Rounds answers below s (e ∷ es) = May below e.kind s × Rounds answers (turned below e.kind) (rule answers e s).0 es
