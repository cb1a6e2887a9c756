-- What an event, a look or a leave of one client makes of what is kept of it.
use Rattle.dns_session.specs.Serving.{Serving}
use Rattle.std.proofs.Common.{◌≡◌, ℕ, List, Option, Some, None, Bool, true, false, ◌∙◌}
use Rattle.std.specs.Prelude.{if◌then◌else◌}
use Rattle.dns_events.specs.declared.look.Look.{Look as State}
use Rattle.dns_service.specs.Answer.{Answer}
use Rattle.dns_events.specs.declared.event.Event.{Event}
use Rattle.dns_events.specs.declared.event.Output.{Output}
use Rattle.dns_service.specs.declared.polled.PolledRequest.{PolledRequest}
use Rattle.dns_session.specs.News.{look_effect}
use Rattle.dns_session.specs.Rule.{rule}
use Rattle.dns_session.specs.Slate.{Slate}
use Rattle.dns_session.specs.Stands.{Stands, GoesAs}
use Rattle.dns_session.specs.declared.client.ClientCore.{ClientCore}
use Rattle.dns_session_map.specs.Serves.{IsOver, IsAt, Steps, LooksOne}

-- versions: an event leaves the version of its client, and of who leaves none is kept
pub at_there : {W R F : Type 0} (o w : Option (ClientCore W R F)) (core new : ClientCore W R F) (v : ℕ) → o ≡ Some core → w ≡ Some new → new.version ≡ core.version → IsAt o v → IsAt w v
at_there o w core new v is now same h = rw now (same ∙ rw is at h)

pub at_left : {W R F : Type 0} (o w : Option (ClientCore W R F)) (finished : Bool) (v : ℕ) → w ≡ (if finished then None else o) → IsAt o v → IsAt w v
at_left o w true v is h = rw is tt
at_left o w false v is h = rw is h

pub looks_there : {W R F : Type 0} (answer : PolledRequest F R → ℕ → Answer) (answers : Serving) (o w : Option (ClientCore W R F)) (core new : ClientCore W R F) (look : State) (outs : List Output) → o ≡ Some core → w ≡ Some new
    → GoesAs answer answers core new outs (look_effect answers core.version look) → new.version ≡ look.version → LooksOne answer answers o look outs w
looks_there answer answers o w core new look outs is now f v = rw (is, now) (f, v)

module _ {W R F : Type 0} (answer : PolledRequest F R → ℕ → Answer) (answers : Serving) where
  -- the event of a client of which a core is kept
  pub steps_there : (o w : Option (ClientCore W R F)) (core new : ClientCore W R F) (e : Event) (outs : List Output) (finished freed : Bool) → o ≡ Some core → w ≡ Some new
      → GoesAs answer answers core new outs (rule answers e) → ((s : Slate) → Stands answer answers new s → IsOver finished freed s) → Steps answer answers o e outs finished freed w
  steps_there o w core new e outs finished freed is now f over = rw (is, now) (f, over)
