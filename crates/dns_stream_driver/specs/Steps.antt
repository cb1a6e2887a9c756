-- What the steps of the loop of a connection do.
use Rattle.std.specs.Prelude.{◌≡◌, ◌⊎◌, ℕ, List, [], ◌∷◌, ◌++◌, false, Option, Result, Ok, Err}
use Rattle.dns_name.specs.declared.error.OutOfMemory.{OutOfMemory}
use Rattle.dns_events.specs.declared.look.Look.{Look}
use Rattle.dns_admission.specs.declared.call.Call.TheVariants.{Look as ToLook}
use Rattle.dns_admission.specs.declared.call.Reply.TheVariants.{Look as Shown}
use Rattle.dns_book.specs.Seats.{Called}
use Rattle.dns_book.specs.declared.history.Known.{Known}
use Rattle.dns_io.specs.Traffic.{Traffic}
use Rattle.dns_service.specs.Answer.{Answer}
use Rattle.dns_events.specs.declared.event.Event.{Event}
use Rattle.dns_events.specs.declared.event.Output.{Output}
use Rattle.dns_events.specs.declared.event.Why.{Why}
use Rattle.dns_service.specs.declared.polled.PolledRequest.{PolledRequest}
use Rattle.dns_session.specs.Serving.{Serving}
use Rattle.dns_session.specs.Slate.{Slate}
use Rattle.dns_session.specs.Rule.{rule}
use Rattle.dns_session.specs.News.{look_effect}
use Rattle.dns_session.specs.Stands.{Stands, GoesAs, waiting, write_limit}
use Rattle.dns_session.specs.declared.client.ClientCore.{ClientCore}
use Rattle.dns_recorder.specs.Own.{is_wide}
use Rattle.dns_recorder.specs.Notes.{NotedKinds}
use Rattle.dns_recorder.specs.Woven.{news_kinds, seen_with}
use Rattle.dns_stream_driver.specs.Closing.{closed_by}
use Rattle.dns_stream_driver.specs.Rounds.{May, turned}
use Rattle.dns_stream_driver.specs.Links.{MovedBy, Unread}

-- one look was made
pub record LookedOnce (k k' : Known) : Type 0 where
  pub look : Look
  pub called : Called k ToLook (Shown look) k'

-- the event at the end, or perhaps not if memory ran out
abbrev pub NotedOrNot : {A : Type 0} → Result A OutOfMemory → List Event → Event → List Event → Type 0
NotedOrNot (Ok a) n e n' = n' ≡ n ++ e ∷ []
NotedOrNot (Err no_memory) n e n' = (n' ≡ n ++ e ∷ []) ⊎ (n' ≡ n)

module _ {W R F : Type 0} (answer : PolledRequest F R → ℕ → Answer) where
  -- an own event was chosen for a core, and done
  pub record Chosen (client below : ℕ) (core : ClientCore W R F) (event : Event) (t t' : Traffic) : Type 0 where
    pub of : event.client ≡ client
    pub is_own : is_wide event.kind ≡ false
    pub may : (answers : Serving) (s : Slate) → Stands answer answers core s → May below event.kind s
    pub moved : MovedBy event.kind (waiting core.state) (write_limit core.state) t t'

  -- a core saw a look
  pub record SeesLook (core core' : ClientCore W R F) (look : Look) (why : Option Why) : Type 0 where
    pub outs : List Output
    pub follows : (answers : Serving) → GoesAs answer answers core core' outs (look_effect answers core.version look)
    pub version : core'.version ≡ look.version
    pub closed : closed_by outs ≡ why

  -- a look, whose news were noted and then heard
  pub record HeardNews (why : Option Why) (core core' : ClientCore W R F) (last last' : Look) (n n' : List Event)
      (k k' : Known) : Type 0 where
    pub look : Look
    pub called : Called k ToLook (Shown look) k'
    pub last_is : last' ≡ seen_with last look
    pub news : NotedKinds (news_kinds last look) n n'
    pub sees : SeesLook core core' look why

  -- one own event for which memory ran out: octets that were read, or an event that may have been noted
  pub record ActedEvent (client below : ℕ) (core : ClientCore W R F) (n n' : List Event) (t t' : Traffic) : Type 0 where
    pub event : Event
    pub chosen : Chosen client below core event t t'
    pub noted : (n' ≡ n ++ event ∷ []) ⊎ (n' ≡ n)

  pub record ActedPart (client below : ℕ) (core : ClientCore W R F) (n n' : List Event) (t t' : Traffic) : Type 0 where
    pub part : ((n' ≡ n) × Unread t t') ⊎ ActedEvent client below core n n' t t'

module _ {W R F : Type 0} (answer : PolledRequest F R → ℕ → Answer) (answers : Serving) where
  -- a core took an event
  pub record TakesEvent (core core' : ClientCore W R F) (event : Event) (why : Option Why) : Type 0 where
    pub outs : List Output
    pub follows : GoesAs answer answers core core' outs (rule answers event)
    pub version : core'.version ≡ core.version
    pub closed : closed_by outs ≡ why

  -- one own event: chosen, noted and taken
  pub record Acted (client below below' : ℕ) (why : Option Why) (core core' : ClientCore W R F) (n n' : List Event)
      (t t' : Traffic) : Type 0 where
    pub event : Event
    pub chosen : Chosen answer client below core event t t'
    pub noted : n' ≡ n ++ event ∷ []
    pub taken : TakesEvent core core' event why
    pub next : below' ≡ turned below event.kind
