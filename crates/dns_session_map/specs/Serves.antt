-- What is kept of one client: the core that stands for its slate, until that is spent.
use Rattle.dns_session.specs.Serving.{Serving}
use Rattle.std.specs.Prelude.{◌≡◌, ◌≢◌, ℕ, [], List, Bool, true, false, Option, Some, None, nat_eq, if◌then◌else◌}
use Rattle.std.specs.List.{flat_map}
use Rattle.std.specs.Ordering.{nat_cmp}
use Rattle.std.specs.BTreeMap.{BTreeMap, get, keys}
use Rattle.std.specs.BTreeSet.{BTreeSet, contains}
use Rattle.dns_events.specs.declared.look.Look.{Look as State}
use Rattle.dns_service.specs.Answer.{Answer}
use Rattle.dns_events.specs.declared.event.Event.{Event}
use Rattle.dns_events.specs.declared.event.Output.{Output}
use Rattle.dns_session.specs.News.{look_effect}
use Rattle.dns_session.specs.Slate.{Slate}
use Rattle.dns_session.specs.Spent.{is_spent}
use Rattle.dns_session.specs.Rule.{rule}
use Rattle.dns_session.specs.Stands.{Stands, GoesAs, state_is_spent}
use Rattle.dns_session.specs.declared.client.ClientCore.{ClientCore}
use Rattle.dns_service.specs.declared.polled.PolledRequest.{PolledRequest}

-- what an event left of a client: it is finished, or it gave its slot back, as its slate says
pub record IsOver (finished freed : Bool) (s : Slate) : Type 0 where
  pub over : finished ≡ is_spent s
  pub free : freed ≡ s.freed

-- a core that is kept heard this version of the configurations
abbrev pub IsAt : {W R F : Type 0} → Option (ClientCore W R F) → ℕ → Type 0
IsAt None v = Unit {0}
IsAt (Some core) v = core.version ≡ v

module _ {W R F : Type 0} (answer : PolledRequest F R → ℕ → Answer) (answers : Serving) where
  -- of a member a core is kept as long as its slate isn't spent; nothing is of a client that is no member
  abbrev pub Holds : Option (ClientCore W R F) → Bool → Slate → Type 0
  Holds None true s = is_spent s ≡ true
  Holds None false s = Unit {0}
  Holds (Some core) true s = Stands answer answers core s × (is_spent s ≡ false)
  Holds (Some core) false s = ⊥

  -- one event of a client, whether the client is finished after it, and whether it gave its slot back
  abbrev pub Steps : Option (ClientCore W R F) → Event → List Output → Bool → Bool → Option (ClientCore W R F) → Type 0
  Steps None e outs finished freed new = (outs ≡ []) × (finished ≡ false) × (freed ≡ false) × (new ≡ None)
  Steps (Some core) e outs finished freed None = ⊥
  Steps (Some core) e outs finished freed (Some new) =
      GoesAs answer answers core new outs (rule answers e) × ((s : Slate) → Stands answer answers new s → IsOver finished freed s)

  -- a client that is finished leaves
  pub record StepsKey (old : Option (ClientCore W R F)) (e : Event) (outs : List Output) (freed : Bool)
      (new : Option (ClientCore W R F)) : Type 0 where
    pub stepped : Option (ClientCore W R F)
    pub finished : Bool
    pub steps : Steps old e outs finished freed stepped
    pub left : new ≡ (if finished then None else stepped)

  -- a look of one client, of which a core is kept or isn't
  abbrev pub LooksOne : Option (ClientCore W R F) → State → List Output → Option (ClientCore W R F) → Type 0
  LooksOne None look outs new = (outs ≡ []) × (new ≡ None)
  LooksOne (Some core) look outs None = ⊥
  LooksOne (Some core) look outs (Some new) = GoesAs answer answers core new outs (look_effect answers core.version look)
      × (new.version ≡ look.version)

  -- the cores stand for slates, by number, and heard these versions of the configurations
  abbrev pub StandAll : BTreeMap ℕ (ClientCore W R F) → (ℕ → Slate) → (ℕ → ℕ) → Type 0
  StandAll m slates versions = (c : ℕ) (core : ClientCore W R F) → get nat_cmp m c ≡ Some core
      → Stands answer answers core (slates c) × (core.version ≡ versions c)

  -- all of them look, by rising number
  abbrev pub LooksAll : BTreeMap ℕ (ClientCore W R F) → BTreeMap ℕ (ClientCore W R F) → State → List Output → Type 0
  LooksAll old new look outs = (slates : ℕ → Slate) (versions : ℕ → ℕ) → StandAll old slates versions
      → (outs ≡ flat_map (λ c. (look_effect answers (versions c) look (slates c)).1) (keys old))
      × StandAll new (λ c. (look_effect answers (versions c) look (slates c)).0) (λ c. look.version)

  -- a client begins with a core: that is kept under its number, unless it is finished, the others stay, and the number is used
  pub record EntersWith (old new : BTreeMap ℕ (ClientCore W R F)) (before after : BTreeSet ℕ) (core : ClientCore W R F)
      (c : ℕ) : Type 0 where
    pub spent : (s : Slate) → Stands answer answers core s → state_is_spent core.state ≡ is_spent s
    pub here : get nat_cmp new c ≡ (if state_is_spent core.state then get nat_cmp old c else Some core)
    pub others : (d : ℕ) → d ≢ c → get nat_cmp new d ≡ get nat_cmp old d
    pub used : (d : ℕ) → contains nat_cmp after d ≡ (if nat_eq d c then true else contains nat_cmp before d)
