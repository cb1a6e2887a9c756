-- An own event is chosen, and then noted and taken, by calls of which the last decides.
use Rattle.std.proofs.Common.{◌≡◌, ℕ, List, [], slice_get, Option, None, Result, Ok, Err, IfOk, OnErr, inr}
use Rattle.dns_name.specs.declared.error.OutOfMemory.{OutOfMemory}
use Rattle.dns_io.specs.Causes.{Observed}
use Rattle.dns_io.specs.Traffic.{Traffic}
use Rattle.dns_service.specs.Answer.{Answer}
use Rattle.dns_events.specs.declared.event.Event.{Event}
use Rattle.dns_events.specs.declared.event.Output.{Output}
use Rattle.dns_events.specs.declared.event.Why.{Why}
use Rattle.dns_service.specs.declared.polled.PolledRequest.{PolledRequest}
use Rattle.dns_session.specs.Serving.{Serving}
use Rattle.dns_session.specs.Slate.{Slate}
use Rattle.dns_session.specs.Rule.{rule}
use Rattle.dns_session.specs.Stands.{Stands, GoesAs, waiting}
use Rattle.dns_session.specs.declared.client.ClientCore.{ClientCore}
use Rattle.dns_recorder.specs.Clocks.{ClockReading, Timed, TimedOne}
use Rattle.dns_recorder.proofs.EventTimes.{timed_noted}
use Rattle.dns_stream_driver.specs.Blames.{Blames, WroteWhole, WroteFirst, ChosenFor, NotedWrite, ActedFor}
use Rattle.dns_stream_driver.specs.Closing.{closed_by}
use Rattle.dns_stream_driver.specs.Links.{MovedBy, IsReadEvent}
use Rattle.dns_stream_driver.specs.Rounds.{turned, next_turn}
use Rattle.dns_stream_driver.specs.Steps.{Chosen, TakesEvent, NotedOrNot, Acted, ActedPart}
use Rattle.dns_stream_driver.proofs.CloseCauses.{for_read, first_read}
use Rattle.dns_stream_driver.proofs.Choices.{chosen_read}

pub acted_clock : (r : Result (Option Why) OutOfMemory) (event : Event) (l l' q q' j j' : Type 0) (n n' : List Event) (f f' : ℕ) (c c' : List ClockReading) →
    Observed (l' × q') (l × q) (TimedOne event f f' c c') → Observed j' j (NotedOrNot r n event n') → IfOk r (λ why. Observed (l' × q' × j') (l × q × j) (Timed n n' f f' c c'))
acted_clock (Ok why) event l l' q q' j j' n n' f f' c c' a b = record { observed = λ t. let x = a.observed (t.0, t.1) in let y = b.observed t.2 in ((x.0.0, x.0.1, y.0), timed_noted event n n' f f' c c' x.1 y.1) }
acted_clock (Err e) event l l' q q' j j' n n' f f' c c' a b = tt

module _ {W R F : Type 0} (answer : PolledRequest F R → ℕ → Answer) where
  pub acted_again : (r : Result (Option Why) OutOfMemory) (event : Event) (l l' j j' : Type 0) (core : ClientCore W R F) (n n' : List Event) (t t' : Traffic) →
      Observed l' l (WroteFirst answer core event.kind t t') → Observed j' j (NotedOrNot r n event n') → IfOk r (λ why. Observed (l' × j') (l × j) (NotedWrite answer core n n' t t'))
  acted_again (Ok why) event l l' j j' core n n' t t' a b = record { observed = λ m. let x = a.observed m.0 in let y = b.observed m.1 in ((x.0, y.0), record { event = event; noted = y.1; wrote = x.1 }) }
  acted_again (Err e) event l l' j j' core n n' t t' a b = tt

  pub acted_part : (r : Result (Option Why) OutOfMemory) (event : Event) (l l' j j' : Type 0) (client below : ℕ) (core : ClientCore W R F) (n n' : List Event) (t t' : Traffic) →
      Observed l' l (Chosen answer client below core event t t') → Observed j' j (NotedOrNot r n event n') → OnErr r (Observed (l' × j') (l × j) (ActedPart answer client below core n n' t t'))
  acted_part (Ok why) event l l' j j' client below core n n' t t' a b = tt
  acted_part (Err e) event l l' j j' client below core n n' t t' a b = record { observed = λ m. let x = a.observed m.0 in let y = b.observed m.1 in ((x.0, y.0), record { part = inr (record { event = event; chosen = x.1; noted = y.1 }) }) }

  -- the event of a read, if no frame waits and no request is to be polled
  pub read_chosen : (r : Result Event OutOfMemory) (l l' : Type 0) (client below : ℕ) (core : ClientCore W R F) (t t' : Traffic) →
      None ≡ slice_get (waiting core.state) 0 → ((answers : Serving) (s : Slate) → Stands answer answers core s → None ≡ slice_get s.queue 0) →
      ((answers : Serving) (s : Slate) → Stands answer answers core s → None ≡ next_turn below s.requests) →
      IfOk r (λ event. Observed l' l (MovedBy event.kind [] 0 t t')) → IfOk r (λ event. (event.client ≡ client) × IsReadEvent event.kind) → IfOk r (λ event. Observed l' l (Chosen answer client below core event t t'))
  read_chosen (Ok event) l l' client below core t t' v q n m k = record { observed = λ x. let y = m.observed x in (y.0, chosen_read answer client below core event t t' v q n y.1 k.1 k.0) }
  read_chosen (Err e) l l' client below core t t' v q n m k = tt

  pub read_blame : (r : Result Event OutOfMemory) (client below : ℕ) (core : ClientCore W R F) (f f' : ℕ) →
      ((answers : Serving) (s : Slate) → Stands answer answers core s → None ≡ slice_get s.queue 0) →
      ((answers : Serving) (s : Slate) → Stands answer answers core s → None ≡ next_turn below s.requests) →
      IfOk r (λ event. Blames event.kind f f') → IfOk r (λ event. (event.client ≡ client) × IsReadEvent event.kind) → IfOk r (λ event. ChosenFor answer below core event f f')
  read_blame (Ok event) client below core f f' q n b k = for_read answer below core event f f' q n k.1 b
  read_blame (Err e) client below core f f' q n b k = tt

  pub read_again : (r : Result Event OutOfMemory) (l l' : Type 0) (client : ℕ) (core : ClientCore W R F) (t t' : Traffic) →
      IfOk r (λ event. Observed l' l (WroteWhole event.kind [] t t')) → IfOk r (λ event. (event.client ≡ client) × IsReadEvent event.kind) → IfOk r (λ event. Observed l' l (WroteFirst answer core event.kind t t'))
  read_again (Ok event) l l' client core t t' w k = record { observed = λ x. let y = w.observed x in (y.0, first_read answer core event.kind t t' k.1 y.1) }
  read_again (Err e) l l' client core t t' w k = tt

module _ {W R F : Type 0} (answer : PolledRequest F R → ℕ → Answer) (answers : Serving) where
  pub acted_told : (r : Result (Option Why) OutOfMemory) (event : Event) (l l' j j' : Type 0) (client below below' : ℕ) (core core' : ClientCore W R F) (n n' : List Event) (t t' : Traffic) →
      Observed l' l (Chosen answer client below core event t t') → Observed j' j (NotedOrNot r n event n') → IfOk r (λ why. TakesEvent answer answers core core' event why) → below' ≡ turned below event.kind →
      IfOk r (λ why. Observed (l' × j') (l × j) (Acted answer answers client below below' why core core' n n' t t'))
  acted_told (Ok why) event l l' j j' client below below' core core' n n' t t' a b k e = record { observed = λ m. let x = a.observed m.0 in let y = b.observed m.1 in ((x.0, y.0), record { event = event; chosen = x.1; noted = y.1; taken = k; next = e }) }
  acted_told (Err e) event l l' j j' client below below' core core' n n' t t' a b k i = tt

  pub acted_blame : (r : Result (Option Why) OutOfMemory) (event : Event) (below : ℕ) (core core' : ClientCore W R F) (f f' : ℕ) →
      ChosenFor answer below core event f f' → IfOk r (λ why. TakesEvent answer answers core core' event why) → IfOk r (λ why. ActedFor answer answers why core core' f f')
  acted_blame (Ok why) event below core core' f f' c k = record { below = below; event = event; chosen = c; taken = k }
  acted_blame (Err e) event below core core' f f' c k = tt

  -- an event was taken, by what was sent for it
  pub takes : (core core' : ClientCore W R F) (event : Event) (outs : List Output) (why : Option Why) →
      GoesAs answer answers core core' outs (rule answers event) → core'.version ≡ core.version → closed_by outs ≡ why → TakesEvent answer answers core core' event why
  takes core core' event outs why f v c = record { outs = outs; follows = f; version = v; closed = c }
