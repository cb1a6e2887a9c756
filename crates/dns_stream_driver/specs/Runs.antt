-- A story so far, as the loop of a connection knows it.
use Rattle.std.specs.Prelude.{◌≡◌, ◌≤◌, ℕ, ◌+◌, List, length, Option, Some, None}
use Rattle.dns_events.specs.declared.look.Look.{Look}
use Rattle.dns_book.specs.declared.history.Known.{Known}
use Rattle.dns_io.specs.Traffic.{Traffic}
use Rattle.dns_service.specs.Answer.{Answer}
use Rattle.dns_events.specs.declared.event.Event.{Event}
use Rattle.dns_events.specs.declared.event.Why.{Why}
use Rattle.dns_events.specs.declared.event.Why.TheVariants.{Shutdown as ByShutdown}
use Rattle.dns_service.specs.declared.polled.PolledRequest.{PolledRequest}
use Rattle.dns_session.specs.Serving.{Serving}
use Rattle.dns_session.specs.Slate.{Slate, Phase, Open, Flushing}
use Rattle.dns_session.specs.After.{slate_after}
use Rattle.dns_session.specs.Stands.{Stands}
use Rattle.dns_session.specs.declared.client.ClientCore.{ClientCore}
use Rattle.dns_recorder.specs.Clocks.{faults_in}
use Rattle.dns_recorder.specs.Woven.{own_kinds, seen_all}
use Rattle.dns_stream_driver.specs.Rounds.{turned_all}
use Rattle.dns_stream_driver.specs.Story.{Story}

-- a connection is open, or a Shutdown came and it has a frame to write
abbrev pub MayGoOn : Phase → List (List ℕ) → Type 0
MayGoOn Open queue = Unit {0}
MayGoOn (Flushing why) queue = (why ≡ ByShutdown) × (1 ≤ length queue)
MayGoOn _ queue = ⊥

abbrev pub IsServed : Slate → Type 0
IsServed s = MayGoOn s.phase s.queue

-- if no output closed it
abbrev pub ServesOn : Option Why → Slate → Type 0
ServesOn None s = IsServed s
ServesOn (Some why) s = Unit {0}

module _ {W R F : Type 0} (answer : PolledRequest F R → ℕ → Answer) (answers : Serving) where
  -- A story so far. The core stands for its slate and knows its looks; ahead is 1 between a look and its event, and else 0; below is the
  -- number below which requests had their turn in this round.
  pub record Run (s : Slate) (client : ℕ) (first last : Look) (ahead below : ℕ) (why : Option Why) (core : ClientCore W R F)
      (n n' : List Event) (k k' : Known) (t t' : Traffic) : Type 0 where
    pub story : Story answers s client first why n n' k k' t t'
    pub name : k'.name ≡ k.name
    pub looked : length story.looks ≡ length (own_kinds story.events) + ahead
    pub last_look : last ≡ seen_all first story.looks
    pub below_is : below ≡ turned_all 0 story.events
    pub stands : Stands answer answers core (slate_after answers s story.events)
    pub version : core.version ≡ last.version
    pub over : (slate_after answers s story.events).conf.over ≡ last.closed
    pub unbroken : why ≡ None → faults_in story.events ≡ 0
    pub goes_on : ServesOn why (slate_after answers s story.events)

  -- a story so far after a turn, and no fewer writes have answered Again
  pub record Going (s : Slate) (client : ℕ) (first last : Look) (below : ℕ) (core : ClientCore W R F) (n n' : List Event)
      (k k' : Known) (t t' : Traffic) : Type 0 where
    pub run : Run s client first last 0 below None core n n' k k' t t'
    pub later : t.full_writes ≤ t'.full_writes
