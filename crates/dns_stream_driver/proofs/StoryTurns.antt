-- A story goes on by a turn.
use Rattle.std.proofs.Common.{◌≡◌, ℕ, List, [], arith, Some, None, inl, inr}
use Rattle.dns_events.specs.declared.look.Look.{Look}
use Rattle.dns_book.specs.declared.history.Known.{Known}
use Rattle.dns_io.specs.Traffic.{Traffic}
use Rattle.dns_service.specs.Answer.{Answer}
use Rattle.dns_events.specs.declared.event.Event.{Event}
use Rattle.dns_events.specs.declared.event.Why.{Why}
use Rattle.dns_events.specs.declared.event.Why.TheVariants.{Shutdown as ByShutdown}
use Rattle.dns_service.specs.declared.polled.PolledRequest.{PolledRequest}
use Rattle.dns_session.specs.After.{slate_after}
use Rattle.dns_session.specs.Serving.{Serving}
use Rattle.dns_session.specs.Slate.{Slate, Open}
use Rattle.dns_session.specs.declared.client.ClientCore.{ClientCore}
use Rattle.dns_stream_driver.specs.Runs.{Run, Going}
use Rattle.dns_stream_driver.specs.Shown.{Causes}
use Rattle.dns_stream_driver.specs.Steps.{HeardNews}
use Rattle.dns_stream_driver.specs.Story.{Broken}
use Rattle.dns_stream_driver.specs.Turning.{MadeTurn, TurnedPart, TurnedFor, BeginsOpen, ClosingStory, LookedAndActed}
use Rattle.dns_stream_driver.proofs.Breaking.{broken_heard, broken_acted}
use Rattle.dns_stream_driver.proofs.ConnectionInvariant.{Goes, goes_heard, goes_acted, heard_cause, acted_cause}
use Rattle.dns_stream_driver.proofs.Running.{heard_at, run_none, run_heard, run_acted}
use Rattle.dns_stream_driver.proofs.NotedReasons.{shown_acted, shown_heard}

module _ {W R F : Type 0} (answer : PolledRequest F R → ℕ → Answer) (answers : Serving) where
  pub going_begun : (s : Slate) (client : ℕ) (first : Look) (core : ClientCore W R F) (n : List Event) (k : Known) (t : Traffic) → BeginsOpen answer answers core first s → Going answer answers s client first first 0 core n n k k t t
  going_begun s client first core n k t b = record { run = run_none answer answers s client first core n k t b; later = omega arith }

  -- one that does not close the connection
  pub going_turned : (s : Slate) (client below below' : ℕ) (first last last' : Look) (core core' : ClientCore W R F) (n n1 n2 : List Event) (k k1 k2 : Known) (t t1 t2 : Traffic) →
      Going answer answers s client first last below core n n1 k k1 t t1 → MadeTurn answer answers client below below' None core core' last last' n1 n2 k1 k2 t1 t2 →
      Going answer answers s client first last' below' core' n n2 k k2 t t2
  going_turned s client below below' first last last' core core' n n1 n2 k k1 k2 t t1 t2 g a = elim a.either [
    | inl x ↦ let e = x.why_is in absurd cc
    | inr x ↦
        let h = run_heard answer answers s client below first last last' None core x.between n n1 x.seen k k1 k2 t t1 g.run x.heard in
        let more = (x.wrote.wrote answers (slate_after answers s h.story.events) h.stands).later in
        let before = g.later in
        record { run = run_acted answer answers s client below below' first last' None x.between core' n x.seen n2 k k2 t t1 t2 h x.acted; later = omega arith }
  ]

  -- a look closes a connection by a shutdown alone
  heard_shutdown : (s : Slate) (client below : ℕ) (first last last' : Look) (why : Why) (core core' : ClientCore W R F) (n n1 n2 : List Event) (k k1 k2 : Known) (t t1 : Traffic) →
      Run answer answers s client first last 0 below None core n n1 k k1 t t1 → HeardNews answer (Some why) core core' last last' n1 n2 k1 k2 → why ≡ ByShutdown
  heard_shutdown s client below first last last' why core core' n n1 n2 k k1 k2 t t1 r h =
      let a = heard_at answer answers (slate_after answers s r.story.events) (Some why) last h.look h.news.events core core' h.sees.outs r.stands r.goes_on r.version r.over h.news.kinds_are (h.sees.follows answers) h.sees.closed in
      a.does.shut_only why a.closed

  closed_heard : (s : Slate) (client below : ℕ) (first last last' : Look) (why : Why) (core core' : ClientCore W R F) (n n1 n2 : List Event) (k k1 k2 : Known) (t t1 : Traffic) →
      Run answer answers s client first last 0 below None core n n1 k k1 t t1 → HeardNews answer (Some why) core core' last last' n1 n2 k1 k2 → ClosingStory answers s client first why n n2 k k2 t t1
  closed_heard s client below first last last' why core core' n n1 n2 k k1 k2 t t1 r h =
      let y = (run_heard answer answers s client below first last last' (Some why) core core' n n1 n2 k k1 k2 t t1 r h).story in
      record { story = y; shown = shown_heard answers why s client first n n2 k k2 t t1 (heard_shutdown s client below first last last' why core core' n n1 n2 k k1 k2 t t1 r h) y }

  closed_acted : (s : Slate) (client below below' : ℕ) (first last last' : Look) (why : Why) (core core' : ClientCore W R F) (n n1 n2 : List Event) (k k1 k2 : Known) (t t1 t2 : Traffic) → s.phase ≡ Open → s.received ≡ [] →
      Going answer answers s client first last below core n n1 k k1 t t1 → LookedAndActed answer answers client below below' (Some why) core core' last last' n1 n2 k1 k2 t1 t2 → ClosingStory answers s client first why n n2 k k2 t t2
  closed_acted s client below below' first last last' why core core' n n1 n2 k k1 k2 t t1 t2 p o g x =
      let h = run_heard answer answers s client below first last last' None core x.between n n1 x.seen k k1 k2 t t1 g.run x.heard in
      let y = (run_acted answer answers s client below below' first last' (Some why) x.between core' n x.seen n2 k k2 t t1 t2 h x.acted).story in
      record { story = y; shown = shown_acted answer answers why s client first x.between n x.seen n2 k k2 k2 t t1 t2 p o g.later h.story h.stands x.wrote y }

  -- one that closes it
  pub closed_turned : (s : Slate) (client below below' : ℕ) (first last last' : Look) (why : Why) (core core' : ClientCore W R F) (n n1 n2 : List Event) (k k1 k2 : Known) (t t1 t2 : Traffic) → s.phase ≡ Open → s.received ≡ [] →
      Going answer answers s client first last below core n n1 k k1 t t1 → MadeTurn answer answers client below below' (Some why) core core' last last' n1 n2 k1 k2 t1 t2 → ClosingStory answers s client first why n n2 k k2 t t2
  closed_turned s client below below' first last last' why core core' n n1 n2 k k1 k2 t t1 t2 p o g a = elim a.either [
    | inl x ↦ let e : why ≡ x.reason = (let h = x.why_is in cc) in rw (x.still, e) (closed_heard s client below first last last' x.reason core core' n n1 n2 k k1 k2 t t1 g.run x.heard)
    | inr x ↦ closed_acted s client below below' first last last' why core core' n n1 n2 k k1 k2 t t1 t2 p o g x
  ]

  -- memory ran out in it
  pub broken_turned : (s : Slate) (client below : ℕ) (first last : Look) (core : ClientCore W R F) (n n1 n2 : List Event) (k k1 k2 : Known) (t t1 t2 : Traffic) →
      Going answer answers s client first last below core n n1 k k1 t t1 → TurnedPart answer answers client below core last n1 n2 k1 k2 t1 t2 → Broken answers s client n n2 t t2
  broken_turned s client below first last core n n1 n2 k k1 k2 t t1 t2 g a = elim a.either [
    | inl x ↦ rw x.1 (broken_heard answer answers s client below first last core n n1 n2 k k1 t t1 g.run x.0)
    | inr x ↦ broken_acted answer answers s client below first x.look x.between n x.seen n2 k k2 t t1 t2 (run_heard answer answers s client below first last x.look None core x.between n n1 x.seen k k1 k2 t t1 g.run x.heard) x.acted
  ]

  -- why it is closed
  pub goes_turned : (core core' : ClientCore W R F) (k k1 k2 : Known) (f f1 f2 : ℕ) → Goes answer answers core k k1 f f1 → TurnedFor answer answers None core core' k1 k2 f1 f2 → Goes answer answers core' k k2 f f2
  goes_turned core core' k k1 k2 f f1 f2 g a = elim a.either [
    | inl x ↦ let e = x.why_is in absurd cc
    | inr x ↦ goes_acted answer answers x.between core' k k2 f f1 f2 (goes_heard answer answers core x.between k k1 k2 f f1 g x.heard) x.acted
  ]

  pub cause_turned : (why : Why) (core core' : ClientCore W R F) (k k1 k2 : Known) (f f1 f2 : ℕ) → Goes answer answers core k k1 f f1 → TurnedFor answer answers (Some why) core core' k1 k2 f1 f2 → Causes why k k2 f f2
  cause_turned why core core' k k1 k2 f f1 f2 g a = elim a.either [
    | inl x ↦ let e : why ≡ x.reason = (let h = x.why_is in cc) in rw (x.still, e) (heard_cause answer answers x.reason core core' k k1 k2 f f1 g x.heard)
    | inr x ↦ acted_cause answer answers why x.between core' k k2 f f1 f2 (goes_heard answer answers core x.between k k1 k2 f f1 g x.heard) x.acted
  ]
