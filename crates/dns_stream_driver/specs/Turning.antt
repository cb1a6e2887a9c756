-- What one turn of the loop of a connection does: a look, and then one own event.
use Rattle.std.specs.Prelude.{◌≡◌, ◌⊎◌, ℕ, List, [], Option, Some, None}
use Rattle.dns_events.specs.declared.look.Look.{Look}
use Rattle.dns_book.specs.declared.history.Known.{Known}
use Rattle.dns_io.specs.Traffic.{Traffic}
use Rattle.dns_service.specs.Answer.{Answer}
use Rattle.dns_events.specs.declared.event.Event.{Event}
use Rattle.dns_events.specs.declared.event.Why.{Why}
use Rattle.dns_service.specs.declared.polled.PolledRequest.{PolledRequest}
use Rattle.dns_session.specs.Serving.{Serving}
use Rattle.dns_session.specs.Slate.{Slate, Open}
use Rattle.dns_session.specs.Stands.{Stands}
use Rattle.dns_session.specs.declared.client.ClientCore.{ClientCore}
use Rattle.dns_recorder.specs.Notes.{NotedWide}
use Rattle.dns_stream_driver.specs.Blames.{NotedWrite, HeardFor, ActedFor}
use Rattle.dns_stream_driver.specs.Shown.{Shown}
use Rattle.dns_stream_driver.specs.Steps.{HeardNews, Acted, ActedPart}
use Rattle.dns_stream_driver.specs.Story.{Story}

module _ {W R F : Type 0} (answer : PolledRequest F R → ℕ → Answer) (answers : Serving) where
  -- a look that closes the connection
  pub record ClosedByLook (why : Option Why) (core core' : ClientCore W R F) (last last' : Look) (n n' : List Event) (k k' : Known)
      (t t' : Traffic) : Type 0 where
    pub reason : Why
    pub why_is : why ≡ Some reason
    pub heard : HeardNews answer (Some reason) core core' last last' n n' k k'
    pub still : t' ≡ t

  -- a look, and then one own event
  pub record LookedAndActed (client below below' : ℕ) (why : Option Why) (core core' : ClientCore W R F) (last last' : Look)
      (n n' : List Event) (k k' : Known) (t t' : Traffic) : Type 0 where
    pub between : ClientCore W R F
    pub seen : List Event
    pub heard : HeardNews answer None core between last last' n seen k k'
    pub acted : Acted answer answers client below below' why between core' seen n' t t'
    pub wrote : NotedWrite answer between seen n' t t'

  pub record MadeTurn (client below below' : ℕ) (why : Option Why) (core core' : ClientCore W R F) (last last' : Look)
      (n n' : List Event) (k k' : Known) (t t' : Traffic) : Type 0 where
    pub either : ClosedByLook why core core' last last' n n' k k' t t'
        ⊎ LookedAndActed client below below' why core core' last last' n n' k k' t t'

  -- memory ran out, at the look, or at the own event
  pub record LookedAndPart (client below : ℕ) (core : ClientCore W R F) (last : Look) (n n' : List Event) (k k' : Known)
      (t t' : Traffic) : Type 0 where
    pub between : ClientCore W R F
    pub look : Look
    pub seen : List Event
    pub heard : HeardNews answer None core between last look n seen k k'
    pub acted : ActedPart answer client below between seen n' t t'

  pub record TurnedPart (client below : ℕ) (core : ClientCore W R F) (last : Look) (n n' : List Event) (k k' : Known)
      (t t' : Traffic) : Type 0 where
    pub either : (NotedWide n n' × (t' ≡ t)) ⊎ LookedAndPart client below core last n n' k k' t t'

  -- the core was closed by a look, for this reason, and no call of the link failed
  pub record ClosedByLookFor (why : Option Why) (core core' : ClientCore W R F) (k k' : Known) (faults faults' : ℕ) : Type 0 where
    pub reason : Why
    pub why_is : why ≡ Some reason
    pub heard : HeardFor answer (Some reason) core core' k k'
    pub still : faults' ≡ faults

  pub record LookedAndActedFor (why : Option Why) (core core' : ClientCore W R F) (k k' : Known) (faults faults' : ℕ) : Type 0 where
    pub between : ClientCore W R F
    pub heard : HeardFor answer None core between k k'
    pub acted : ActedFor answer answers why between core' faults faults'

  pub record TurnedFor (why : Option Why) (core core' : ClientCore W R F) (k k' : Known) (faults faults' : ℕ) : Type 0 where
    pub either : ClosedByLookFor why core core' k k' faults faults' ⊎ LookedAndActedFor why core core' k k' faults faults'

  -- a story begins at a slate of an open connection: the core stands for it, and knows what was seen
  pub record BeginsOpen (core : ClientCore W R F) (last : Look) (s : Slate) : Type 0 where
    pub stands : Stands answer answers core s
    pub version : core.version ≡ last.version
    pub over : s.conf.over ≡ last.closed
    pub opened : s.phase ≡ Open
    pub nothing : s.received ≡ []

-- a story that closes the connection, and what shows why
pub record ClosingStory (answers : Serving) (s : Slate) (client : ℕ) (first : Look) (why : Why) (n n' : List Event) (k k' : Known)
    (t t' : Traffic) : Type 0 where
  pub story : Story answers s client first (Some why) n n' k k' t t'
  pub shown : Shown answers s why n n' t t'
