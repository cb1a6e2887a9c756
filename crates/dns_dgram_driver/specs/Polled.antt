-- Which exchanges are polled between datagrams, and which are finished. Lists of events go from the oldest to the newest; an event e
-- comes after the events q.
use Rattle.std.specs.Prelude.{◌≡◌, ℕ, List, [], ◌∷◌, ◌++◌, Bool, true, false, not, ◌&&◌, nat_eq}
use Rattle.std.specs.List.{list_all}
use Rattle.dns_events.specs.declared.event.Event.{Event}
use Rattle.dns_events.specs.declared.event.EventKind.{EventKind}
use Rattle.dns_events.specs.declared.event.EventKind.TheVariants.{Datagram, Turn}
use Rattle.dns_session.specs.Serving.{Serving}
use Rattle.dns_session.specs.Slate.{Slate}
use Rattle.dns_events.specs.declared.settings.Settings.{Settings}
use Rattle.dns_recorder.specs.Sent.{slate}

-- an exchange is finished: its request is done, or it never had one
abbrev pub is_finished : Slate → Bool
is_finished s = list_all (λ r. r.done) s.requests

-- whether a client waits for a Turn after an event, which is its own or not, and after which it is finished or not: with a Datagram
-- each unfinished exchange begins to wait for a Turn of its request
abbrev pub waits_by : EventKind → Bool → Bool → Bool → Bool
waits_by (Datagram addr octets) own finished waiting = not finished
waits_by (Turn request) own finished waiting = waiting && not (own && nat_eq request 0)
waits_by _ own finished waiting = waiting

-- a Datagram stands only if nobody waits
abbrev pub MayFollow : EventKind → Bool → Type 0
MayFollow (Datagram addr octets) waiting = waiting ≡ false
MayFollow _ waiting = Unit {0}

module _ (answers : Serving) (settings : Settings) where
  abbrev pub waits_with : ℕ → List Event → Bool → Event → Bool
  waits_with c q waiting e = waits_by e.kind (nat_eq e.client c) (is_finished (slate answers settings c (q ++ e ∷ []))) waiting

  abbrev pub waits_after : ℕ → List Event → Bool → List Event → Bool
  waits_after c q waiting [] = waiting
  waits_after c q waiting (e ∷ es) = waits_after c (q ++ e ∷ []) (waits_with c q waiting e) es

  -- whether client c waits for a Turn after some events
  unfoldable pub waits : ℕ → List Event → Bool
  waits c es = waits_after c [] false es

  abbrev pub TurnsAfter : ℕ → List Event → Bool → List Event → Type 0
  TurnsAfter c q waiting [] = Unit {0}
  TurnsAfter c q waiting (e ∷ es) = MayFollow e.kind waiting × TurnsAfter c (q ++ e ∷ []) (waits_with c q waiting e) es

  -- between two Datagrams stands a Turn of client c, if it is unfinished after the first
  unfoldable pub TurnsBetween : ℕ → List Event → Type 0
  TurnsBetween c es = TurnsAfter c [] false es

  -- every exchange is finished
  abbrev pub AllFinished : List Event → Type 0
  AllFinished es = (c : ℕ) → is_finished (slate answers settings c es) ≡ true
