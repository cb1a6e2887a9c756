-- The order of the events that a driver of datagrams records, against the looks of its seat. The news of a look are recorded at once.
-- Before each own event stands a look, or several, since a receive may give no datagram; others may stand at the end. A Fault has no
-- look, and stands right after its exchange's event.
use Rattle.std.specs.Prelude.{◌≡◌, List, [], ◌∷◌, ◌++◌, Bool, true, false, Option, Some, None}
use Rattle.dns_events.specs.declared.look.Look.{Look}
use Rattle.dns_events.specs.declared.event.Event.{Event}
use Rattle.dns_events.specs.declared.event.EventKind.TheVariants.{Fault}
use Rattle.dns_session.specs.News.{new_end}
use Rattle.dns_recorder.specs.Woven.{kinds, news_kinds, seen_with}
use Rattle.dns_dgram_driver.specs.Events.{IsOwnKind}

-- a look with its news, or an own event with the Fault of its exchange, if one follows
pub data RecordedPart : Type 0 where
  looked : Look → List Event → RecordedPart
  acted : Event → Option Event → RecordedPart

abbrev pub fault_events : Option Event → List Event
fault_events None = []
fault_events (Some fault) = fault ∷ []

abbrev pub events_of : RecordedPart → List Event
events_of (looked look news) = news
events_of (acted event fault) = event ∷ fault_events fault

abbrev pub looks_of : RecordedPart → List Look
looks_of (looked look news) = look ∷ []
looks_of (acted event fault) = []

abbrev pub all_events_of : List RecordedPart → List Event
all_events_of [] = []
all_events_of (r ∷ rs) = events_of r ++ all_events_of rs

abbrev pub all_looks_of : List RecordedPart → List Look
all_looks_of [] = []
all_looks_of (r ∷ rs) = looks_of r ++ all_looks_of rs

abbrev pub IsFaultOf : Event → Option Event → Type 0
IsFaultOf event None = Unit {0}
IsFaultOf event (Some fault) = (fault.kind ≡ Fault) × (fault.client ≡ event.client)

-- by what was seen before, and whether a look stands since the own event before
abbrev pub AreInOrder : Look → Bool → List RecordedPart → Type 0
AreInOrder before ready [] = Unit {0}
AreInOrder before ready (looked look news ∷ rs) = (kinds news ≡ news_kinds before look) × AreInOrder (seen_with before look) true rs
AreInOrder before ready (acted event fault ∷ rs) = (ready ≡ true) × IsOwnKind event.kind × IsFaultOf event fault
    × AreInOrder before false rs

-- of a first look and the looks after it; the news of the first look are a Shutdown, if it shows one
pub record EventsFollowLooks (first : Look) (looks : List Look) (events : List Event) : Type 0 where
  pub opening : List Event
  pub records : List RecordedPart
  pub recorded : events ≡ opening ++ all_events_of records
  pub seen : looks ≡ all_looks_of records
  pub opened : kinds opening ≡ kinds (new_end false first)
  pub order : AreInOrder first true records
