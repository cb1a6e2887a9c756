-- What notes add to the events noted before them.
use Rattle.std.specs.Prelude.{◌≡◌, ℕ, List, [], ◌∷◌, ◌++◌, true, Result, Ok, Err, OnOk, OnErr}
use Rattle.dns_name.specs.declared.error.OutOfMemory.{OutOfMemory}
use Rattle.dns_io.specs.Causes.{Observed}
use Rattle.dns_events.specs.declared.event.Event.{Event}
use Rattle.dns_events.specs.declared.event.EventKind.{EventKind}
use Rattle.dns_model.specs.Own.{is_wide}
use Rattle.dns_recorder.specs.Clocks.{ClockReading, Timed}
use Rattle.dns_recorder.specs.Woven.{kinds, AreNobodys}

-- the event at the end, or nothing if there is no memory
abbrev pub NoteMoves : Result (Unit {0}) OutOfMemory → Event → List Event → List Event → Type 0
NoteMoves (Ok u) e a b = b ≡ a ++ e ∷ []
NoteMoves (Err no_memory) e a b = b ≡ a

-- an event of a client and a kind was noted, of a moment
pub record NotedMoment (client : ℕ) (kind : EventKind) (at : ℕ) (n n' : List Event) : Type 0 where
  pub secs : ℕ
  pub noted : n' ≡ n ++ record { at = at; secs = secs; client = client; kind = kind } ∷ []

-- events of these kinds were noted, which name no client
pub record NotedKinds (ks : List EventKind) (n n' : List Event) : Type 0 where
  pub events : List Event
  pub kinds_are : kinds events ≡ ks
  pub nobodys : AreNobodys events
  pub noted : n' ≡ n ++ events

-- events that all hear were noted
abbrev pub AllWide : List EventKind → Type 0
AllWide [] = Unit {0}
AllWide (k ∷ ks) = (is_wide k ≡ true) × AllWide ks

pub record NotedWide (n n' : List Event) : Type 0 where
  pub events : List Event
  pub wide : AllWide (kinds events)
  pub nobodys : AreNobodys events
  pub noted : n' ≡ n ++ events

-- What a call did that notes events of these kinds, each with a reading of the clock, or nothing if there is no memory: by what clock
-- and recorder tell, which are read so.
pub record NotesKinds {C J : Type 0} (ticks : C → Type 0) (readings : C → List ClockReading) (notes : J → Type 0) (noted : J → List Event)
    (ks : List EventKind) (r : Result (Unit {0}) OutOfMemory) (c c' : C) (j j' : J) : Type 0 where
  pub observed : OnOk r (Observed (notes j') (notes j) (NotedKinds ks (noted j) (noted j')))
  pub clock : OnOk r (Observed (ticks c' × notes j') (ticks c × notes j) (Timed (noted j) (noted j') 0 0 (readings c) (readings c')))
  pub no_memory : OnErr r (Observed (notes j') (notes j) (noted j' ≡ noted j))
  pub clock_no_memory : OnErr r (Observed (ticks c' × notes j') (ticks c × notes j) (noted j' ≡ noted j))
