-- What a server whose clients look for themselves keeps after some steps.
use Rattle.std.specs.Prelude.{◌≡◌, ℕ, List, [], ◌∷◌, ◌++◌, not, nat_eq}
use Rattle.std.specs.List.{list_any}
use Rattle.std.specs.Ordering.{nat_cmp}
use Rattle.std.specs.BTreeMap.{get}
use Rattle.std.specs.BTreeSet.{contains}
use Rattle.dns_service.specs.Answer.{Answer}
use Rattle.dns_events.specs.declared.event.Output.{Output}
use Rattle.dns_events.specs.declared.event.Step.{Step}
use Rattle.dns_service.specs.declared.polled.PolledRequest.{PolledRequest}
use Rattle.dns_session.specs.Serving.{Serving}
use Rattle.dns_core.specs.Out.{is_unused}
use Rattle.dns_core.specs.Outs.{placed_slate, membership, step_gained, outs}
use Rattle.dns_core.specs.Placed.{knows}
use Rattle.dns_core.specs.Serves.{Holds, IsAt}
use Rattle.dns_core.specs.declared.server.Server.{Server}
use Rattle.dns_events.specs.declared.settings.Settings.{Settings}

-- what is appended to outputs is what is sent for q and s, after what is sent for q
pub record SendsForStep (answers : Serving) (settings : Settings) (q : List Step) (s : Step) (before all : List Output) : Type 0 where
  pub more : List Output
  pub appended : all ≡ before ++ more
  pub sent : outs answers settings (q ++ s ∷ []) ≡ outs answers settings q ++ more

module _ {W R F : Type 0} (answer : PolledRequest F R → ℕ → Answer) (answers : Serving) where
  -- the cores of the members that aren't spent, each at the version of its last look, the numbers that were used, and the book
  pub record ServesSteps (settings : Settings) (q : List Step) (server : Server W R F) : Type 0 where
    pub clients : (c : ℕ) → Holds answer answers (get nat_cmp server.clients c)
        (list_any (nat_eq c) (membership answers settings q).members) (placed_slate answers settings c q)
    pub versions : (c : ℕ) → IsAt (get nat_cmp server.clients c) (knows settings c q).seen.version
    pub used : (c : ℕ) → contains nat_cmp server.used c ≡ not (is_unused (placed_slate answers settings c q).phase)
    pub book : server.book ≡ (membership answers settings q).book

  -- whatever the settings and the steps before, s is answered as it is to be
  abbrev pub StepGoes : Server W R F → Server W R F → Step → List Output → Type 0
  StepGoes old new s sent = (settings : Settings) (q : List Step) → ServesSteps settings q old
      → (sent ≡ step_gained answers settings q s) × ServesSteps settings (q ++ s ∷ []) new

  -- whatever the settings and the steps before, what is appended is what is sent for s after them. So a server that is stepped
  -- through a list has appended what is sent for that list
  abbrev pub AddsStep : Server W R F → Server W R F → Step → List Output → List Output → Type 0
  AddsStep old new s before all = (settings : Settings) (q : List Step) → ServesSteps settings q old
      → SendsForStep answers settings q s before all × ServesSteps settings (q ++ s ∷ []) new
