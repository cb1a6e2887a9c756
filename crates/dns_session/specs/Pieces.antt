-- A piece of a stream's octets, and what it means that one may be cut in two.
use Rattle.dns_session.specs.Serving.{Serving}
use Rattle.std.specs.Prelude.{◌≡◌, ℕ, List, ◌++◌}
use Rattle.dns_events.specs.declared.event.Event.{Event}
use Rattle.dns_events.specs.declared.event.EventKind.TheVariants.{Piece}
use Rattle.dns_session.specs.Slate.{Slate}
use Rattle.dns_session.specs.Rule.{rule}

-- the event of one piece
abbrev pub piece_of : ℕ → ℕ → ℕ → List ℕ → Event
piece_of client at secs o = record { at = at; secs = secs; client = client; kind = Piece o }

-- two events one after the other do and say what one does
pub record IsCut (answers : Serving) (whole former latter : Event) (s : Slate) : Type 0 where
  pub slate : (rule answers whole s).0 ≡ (rule answers latter (rule answers former s).0).0
  pub says : (rule answers whole s).1 ≡ (rule answers former s).1 ++ (rule answers latter (rule answers former s).0).1
