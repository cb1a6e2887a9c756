-- What shows why a connection was closed.
use Rattle.std.specs.Prelude.{◌≡◌, ◌<◌, ◌⊎◌, ℕ, List, [], ◌∷◌, ◌++◌, true}
use Rattle.dns_events.specs.declared.look.Look.{Look}
use Rattle.dns_admission.specs.declared.call.Call.TheVariants.{Look as ToLook}
use Rattle.dns_admission.specs.declared.call.Reply.TheVariants.{Look as LookReply}
use Rattle.dns_book.specs.Gains.{Gained}
use Rattle.dns_book.specs.History.{entry}
use Rattle.dns_book.specs.declared.history.Entry.{Entry}
use Rattle.dns_book.specs.declared.history.Known.{Known}
use Rattle.dns_io.specs.Causes.{Rose}
use Rattle.dns_io.specs.Traffic.{Traffic}
use Rattle.dns_events.specs.declared.event.Event.{Event}
use Rattle.dns_events.specs.declared.event.Why.{Why}
use Rattle.dns_events.specs.declared.event.Why.TheVariants.{Ended, Short, Idle, WriteTimeout, Fault as ByFault, Commanded, Shutdown as ByShutdown}
use Rattle.dns_session.specs.Serving.{Serving}
use Rattle.dns_session.specs.Slate.{Slate}
use Rattle.dns_session.specs.After.{slate_after, sent_after}
use Rattle.dns_session.specs.Reasons.{HasShortFrame, IsLateTick, IsLongWrite}
use Rattle.dns_stream_driver.specs.Links.{pieces_in, frame_octets, front}

-- the last of some events is such an event, at the slate after those before it
pub record LastIs (answers : Serving) (s : Slate) (events : List Event) (Is : Event → Slate → Type 0) : Type 0 where
  pub before : List Event
  pub event : Event
  pub is : events ≡ before ++ event ∷ []
  pub such : Is event (slate_after answers s before)

-- A Write that took more than the timeout in force. After what was written before it stands its whole frame, or a write answered
-- Again.
pub record IsLateWrite (written : List ℕ) (t t' : Traffic) (e : Event) (s : Slate) : Type 0 where
  pub long : IsLongWrite e s
  pub shown : (t'.went ≡ written ++ front s.queue) ⊎ (t.full_writes < t'.full_writes)

-- what the noted events and the link show; of the other reasons the link's count of faults or the seat shows
abbrev pub Shows : Why → Serving → Slate → List Event → Traffic → Traffic → Type 0
Shows Ended answers s events t t' = t.ends < t'.ends
Shows Short answers s events t t' = HasShortFrame (pieces_in events)
Shows Idle answers s events t t' = LastIs answers s events IsLateTick
Shows WriteTimeout answers s events t t' = LastIs answers s events (IsLateWrite (t.went ++ frame_octets (sent_after answers s events)) t t')
Shows _ answers s events t t' = Unit {0}

-- the events from n to n' show it
pub record Shown (answers : Serving) (s : Slate) (why : Why) (n n' : List Event) (t t' : Traffic) : Type 0 where
  pub events : List Event
  pub noted : n' ≡ n ++ events
  pub shows : Shows why answers s events t t'

-- one of the calls that the seat made was a look that showed a shutdown
pub record SawShutdown (k k' : Known) : Type 0 where
  pub before : List Entry
  pub look : Look
  pub after : List Entry
  pub calls : Gained k (before ++ entry k.name ToLook (LookReply look) ∷ after) k'
  pub closed : look.closed ≡ true

-- What the link's count of faults and the seat show, whether link and recorder tell or not. The count rose if the connection was
-- closed by a fault, and else stayed. No connection is closed by a command.
abbrev pub Causes : Why → Known → Known → ℕ → ℕ → Type 0
Causes ByFault k k' faults faults' = Rose faults faults'
Causes ByShutdown k k' faults faults' = SawShutdown k k' × (faults' ≡ faults)
Causes Commanded k k' faults faults' = ⊥
Causes _ k k' faults faults' = faults' ≡ faults
