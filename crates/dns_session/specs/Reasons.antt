-- Why an event closes a connection: the reason, by the event and the slate before it (RFC 7766).
use Rattle.std.specs.Prelude.{◌≡◌, ◌≤◌, ◌<◌, ◌⊎◌, ℕ, List, ◌++◌, length, slice_get, Some}
use Rattle.dns_events.specs.declared.event.Event.{Event}
use Rattle.dns_events.specs.declared.event.EventKind.TheVariants.{Piece, End, Fault, Close, Write, Tick, Shutdown}
use Rattle.dns_events.specs.declared.event.Why.{Why}
use Rattle.dns_events.specs.declared.event.Why.TheVariants.{Ended, Short, Idle, WriteTimeout, Fault as By_fault, Commanded, Shutdown as By_shutdown}
use Rattle.dns_session.specs.Frames.{frames}
use Rattle.dns_session.specs.Requests.{header_size}
use Rattle.dns_session.specs.Slate.{Slate, Open, Flushing}
use Rattle.dns_session.specs.Timers.{deadline}

-- one of the frames of some octets is shorter than a header
pub record HasShortFrame (octets : List ℕ) : Type 0 where
  pub number : ℕ
  pub frame : List ℕ
  pub is : slice_get (frames octets) number ≡ Some frame
  pub short : length frame < header_size

-- a piece with which such a frame comes
pub record IsShortPiece (e : Event) (s : Slate) : Type 0 where
  pub octets : List ℕ
  pub kind : e.kind ≡ Piece octets
  pub phase : s.phase ≡ Open
  pub short : HasShortFrame (s.received ++ octets)

-- a Tick past the deadline
pub record IsLateTick (e : Event) (s : Slate) : Type 0 where
  pub kind : e.kind ≡ Tick
  pub late : deadline s.reset_at s.connection.idle_timeout e.at ≤ e.at

-- a Write that took more than the timeout in force
pub record IsLongWrite (e : Event) (s : Slate) : Type 0 where
  pub took : ℕ
  pub kind : e.kind ≡ Write took
  pub late : s.connection.response_write_timeout < took

-- a Close and a Shutdown close it at once, or once its queue was written
abbrev pub ClosesFor : Why → Event → Slate → Type 0
ClosesFor Ended e s = e.kind ≡ End
ClosesFor Short e s = IsShortPiece e s
ClosesFor Idle e s = IsLateTick e s
ClosesFor WriteTimeout e s = IsLongWrite e s
ClosesFor By_fault e s = e.kind ≡ Fault
ClosesFor Commanded e s = (e.kind ≡ Close) ⊎ (s.phase ≡ Flushing Commanded)
ClosesFor By_shutdown e s = (e.kind ≡ Shutdown) ⊎ (s.phase ≡ Flushing By_shutdown)
