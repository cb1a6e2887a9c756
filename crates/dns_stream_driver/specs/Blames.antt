-- What the steps of the loop of a connection say of why it is closed.
use Rattle.std.specs.Prelude.{◌≡◌, ◌≤◌, ◌<◌, ◌⊎◌, ℕ, List, [], ◌∷◌, ◌++◌, false, Option, Result, IfOk, OnErr}
use Rattle.dns_name.specs.declared.error.OutOfMemory.{OutOfMemory}
use Rattle.dns_events.specs.declared.look.Look.{Look}
use Rattle.dns_admission.specs.declared.call.Call.TheVariants.{Look as ToLook}
use Rattle.dns_admission.specs.declared.call.Reply.TheVariants.{Look as LookReply}
use Rattle.dns_book.specs.Seats.{Called}
use Rattle.dns_book.specs.declared.history.Known.{Known}
use Rattle.dns_io.specs.Causes.{Rose, Observed}
use Rattle.dns_io.specs.Traffic.{Traffic}
use Rattle.dns_service.specs.Answer.{Answer}
use Rattle.dns_events.specs.declared.event.Event.{Event}
use Rattle.dns_events.specs.declared.event.EventKind.{EventKind}
use Rattle.dns_events.specs.declared.event.EventKind.TheVariants.{Write, Fault}
use Rattle.dns_events.specs.declared.event.Why.{Why}
use Rattle.dns_service.specs.declared.polled.PolledRequest.{PolledRequest}
use Rattle.dns_session.specs.Serving.{Serving}
use Rattle.dns_session.specs.Slate.{Slate}
use Rattle.dns_session.specs.Stands.{Stands}
use Rattle.dns_session.specs.declared.client.ClientCore.{ClientCore}
use Rattle.dns_recorder.specs.Clocks.{ClockReading, TimedOne}
use Rattle.dns_recorder.specs.Own.{is_wide}
use Rattle.dns_stream_driver.specs.Links.{front, Unread}
use Rattle.dns_stream_driver.specs.Rounds.{May}
use Rattle.dns_stream_driver.specs.Steps.{Chosen, SeesLook, TakesEvent}
use Rattle.dns_stream_driver.specs.declared.writing.WriteEnd.{WriteEnd}
use Rattle.dns_stream_driver.specs.declared.writing.WriteEnd.TheVariants.{Failed, Late}

-- while a frame was written the link's count of faults rose if a write failed, and else stayed
pub record EndBlames (end : WriteEnd) (faults faults' : ℕ) : Type 0 where
  pub later : faults ≤ faults'
  pub failed : end ≡ Failed → Rose faults faults'
  pub same : ¬ (end ≡ Failed) → faults' ≡ faults

-- if that took too long, a write answered Again
pub record EndAgain (end : WriteEnd) (again again' : ℕ) : Type 0 where
  pub later : again ≤ again'
  pub late : (at secs : ℕ) → end ≡ Late at secs → again < again'

-- with an event the link's count of faults rose if it is a Fault, and else stayed
pub record Blames (kind : EventKind) (faults faults' : ℕ) : Type 0 where
  pub later : faults ≤ faults'
  pub fault : kind ≡ Fault → Rose faults faults'
  pub same : ¬ (kind ≡ Fault) → faults' ≡ faults

-- after a Write stands its whole frame, or a write answered Again
pub record WroteWhole (kind : EventKind) (frame : List ℕ) (t t' : Traffic) : Type 0 where
  pub later : t.full_writes ≤ t'.full_writes
  pub write : (took : ℕ) → kind ≡ Write took → (t'.went ≡ t.went ++ frame) ⊎ (t.full_writes < t'.full_writes)

module _ {W R F : Type 0} (answer : PolledRequest F R → ℕ → Answer) where
  -- after a Write the frame that stood first in the queue was written whole, or a write answered Again
  abbrev pub WroteFirst : ClientCore W R F → EventKind → Traffic → Traffic → Type 0
  WroteFirst core kind t t' = (answers : Serving) (s : Slate) → Stands answer answers core s → WroteWhole kind (front s.queue) t t'

  -- an own event that may come
  pub record ChosenFor (below : ℕ) (core : ClientCore W R F) (event : Event) (faults faults' : ℕ) : Type 0 where
    pub is_own : is_wide event.kind ≡ false
    pub may : (answers : Serving) (s : Slate) → Stands answer answers core s → May below event.kind s
    pub blames : Blames event.kind faults faults'

  -- An own event that was chosen for a core and done, with its readings of the clock, or memory ran out at a read. The link and the
  -- clock are read so.
  pub record OwnEvent {L C : Type 0} (tells : L → Type 0) (traffic : L → Traffic) (faults_of : L → ℕ) (ticks : C → Type 0)
      (readings : C → List ClockReading)
      (client below : ℕ) (core : ClientCore W R F) (result : Result Event OutOfMemory) (l l' : L) (c c' : C) : Type 0 where
    pub chosen : IfOk result (λ event. Observed (tells l') (tells l) (Chosen answer client below core event (traffic l) (traffic l')))
    pub clock : IfOk result (λ event. Observed (tells l' × ticks c') (tells l × ticks c)
        (TimedOne event (traffic l).full_writes (traffic l').full_writes (readings c) (readings c')))
    pub blame : IfOk result (λ event. ChosenFor below core event (faults_of l) (faults_of l'))
    pub again : IfOk result (λ event. Observed (tells l') (tells l) (WroteFirst core event.kind (traffic l) (traffic l')))
    pub no_memory : OnErr result (Observed (tells l') (tells l) (Unread (traffic l) (traffic l')))
    pub later : faults_of l ≤ faults_of l'

  -- one that was noted
  pub record NotedWrite (core : ClientCore W R F) (n n' : List Event) (t t' : Traffic) : Type 0 where
    pub event : Event
    pub noted : n' ≡ n ++ event ∷ []
    pub wrote : WroteFirst core event.kind t t'

  -- a look, whose news were heard
  pub record HeardFor (why : Option Why) (core core' : ClientCore W R F) (k k' : Known) : Type 0 where
    pub look : Look
    pub called : Called k ToLook (LookReply look) k'
    pub sees : SeesLook answer core core' look why

module _ {W R F : Type 0} (answer : PolledRequest F R → ℕ → Answer) (answers : Serving) where
  -- an own event that was taken
  pub record ActedFor (why : Option Why) (core core' : ClientCore W R F) (faults faults' : ℕ) : Type 0 where
    pub below : ℕ
    pub event : Event
    pub chosen : ChosenFor answer below core event faults faults'
    pub taken : TakesEvent answer answers core core' event why
