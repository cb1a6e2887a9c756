-- What a server keeps after some events.
use Rattle.dns_session.specs.Serving.{Serving}
use Rattle.std.specs.Prelude.{◌≡◌, ◌<◌, ◌≤◌, ℕ, List, [], ◌∷◌, ◌++◌, length, not, nat_eq}
use Rattle.std.specs.List.{list_any}
use Rattle.std.specs.Ordering.{nat_cmp}
use Rattle.std.specs.BTreeMap.{get}
use Rattle.std.specs.BTreeSet.{contains}
use Rattle.dns_admission.specs.Machine.{last_version}
use Rattle.dns_service.specs.Answer.{Answer}
use Rattle.dns_events.specs.declared.event.Event.{Event}
use Rattle.dns_events.specs.declared.event.Output.{Output}
use Rattle.dns_service.specs.declared.polled.PolledRequest.{PolledRequest}
use Rattle.dns_session.specs.Slate.{conf_of}
use Rattle.dns_core.specs.Sent.{conf, slate}
use Rattle.dns_core.specs.Out.{members, taken, gained, is_unused, out}
use Rattle.dns_core.specs.Serves.{Holds, IsAt}
use Rattle.dns_events.specs.declared.settings.Settings.{Settings}
use Rattle.dns_core.specs.declared.server.Server.{Server}

-- what is appended to outputs is what is sent for q and e, after what is sent for q
pub record SendsFor (answers : Serving) (settings : Settings) (q : List Event) (e : Event) (outs all : List Output) : Type 0 where
  pub more : List Output
  pub appended : all ≡ outs ++ more
  pub sent : out answers settings (q ++ e ∷ []) ≡ out answers settings q ++ more

module _ {W R F : Type 0} (answer : PolledRequest F R → ℕ → Answer) (answers : Serving) where
  -- the cores of the members that aren't spent, which heard the book's version; the numbers that were used; and the book, whose
  -- version counts the events at most
  pub record Serves (settings : Settings) (q : List Event) (server : Server W R F) : Type 0 where
    pub clients : (c : ℕ) → Holds answer answers (get nat_cmp server.clients c) (list_any (nat_eq c) (members answers settings q))
        (slate answers settings c q)
    pub versions : (c : ℕ) → IsAt (get nat_cmp server.clients c) server.book.version
    pub used : (c : ℕ) → contains nat_cmp server.used c ≡ not (is_unused (slate answers settings c q).phase)
    pub slots : server.book.taken ≡ taken answers settings q (members answers settings q)
    pub shown : conf_of server.book ≡ conf settings q
    pub few : server.book.version ≤ length q

  -- whatever the settings and the events before, of which there are fewer than versions, e is answered as it is to be
  abbrev pub Goes : Server W R F → Server W R F → Event → List Output → Type 0
  Goes old new e outs = (settings : Settings) (q : List Event) → length q < last_version → Serves settings q old
      → (outs ≡ gained answers settings q e) × Serves settings (q ++ e ∷ []) new

  -- whatever the settings and the events before, of which there are fewer than versions, what is appended is what is sent for e
  -- after them. So a server that is stepped through a list has appended what is sent for that list
  abbrev pub AddsOutputs : Server W R F → Server W R F → Event → List Output → List Output → Type 0
  AddsOutputs old new e outs all = (settings : Settings) (q : List Event) → length q < last_version → Serves settings q old
      → SendsFor answers settings q e outs all × Serves settings (q ++ e ∷ []) new
