-- What an event leads to at a place, and how a datagram starts.
use Rattle.std.proofs.Common.{◌≡◌, ℕ, Bool, true, false, List, [], refl, ap, sym, subst, ◌∙◌, Some, None, Option, Result}
use Rattle.std.specs.Prelude.{MatchOption, option_and_then, slice_get}
use Rattle.dns_base.specs.Msg.{Msg}
use Rattle.dns_layers.specs.Rewritten.{rewritten}
use Rattle.dns_events.specs.Config.{Dgram}
use Rattle.dns_service.specs.Answer.{Item}
use Rattle.dns_service.specs.Req.{Req}
use Rattle.dns_service.specs.declared.service.Polled.TheVariants.{Ready}
use Rattle.dns_forward.specs.Matching.{with_id}
use Rattle.dns_route.specs.declared.send_request.SendError.{SendError}
use Rattle.dns_lookup.specs.declared.lookup_event.LookupEvent.{LookupEvent}
use Rattle.dns_lookup.specs.declared.lookup_event.LookupOutcome.{LookupOutcome}
use Rattle.dns_lookup.specs.declared.lookup_event.LookupOutcome.TheVariants as Led_to
use Rattle.dns_lookup.specs.declared.lookup_event.UpstreamConfig.{UpstreamConfig}
use Rattle.dns_proxy.specs.declared.query_event.ClientMessage.{ClientMessage}
use Rattle.dns_proxy.specs.declared.query_event.QueryOutcome.{QueryOutcome}
use Rattle.dns_proxy.specs.declared.query_event.QueryOutcome.TheVariants.{Nothing, Send, Connect, Reply}
use Rattle.dns_proxy.specs.declared.query.Query.{Query}
use Rattle.dns_proxy.specs.declared.beginning.BegunQuery.TheVariants as Begun
use Rattle.dns_proxy.specs.declared.proxy.Started.{Started}
use Rattle.dns_proxy.specs.declared.proxy.Started.TheVariants.{Sent, Short}
use Rattle.dns_proxy.specs.declared.proxy.WhenFull.{WhenFull}
use Rattle.dns_proxy.specs.Coming.{message_of, outputs_to}
use Rattle.dns_proxy.specs.Fronts.{Fronting}
use Rattle.dns_proxy.specs.Proxied.{Asked, asked_for, due_of, outcome_after, sent_for, with_event}
use Rattle.dns_proxy.specs.Queries.{Begins, FrontAfter, Goes, GoesBy, Stands, front_taken, replied}
use Rattle.dns_proxy.specs.Places.{Enters, GoesAt, StandsAt, Starts, StartsBy, due_there, ends, front_at, kept_at}

-- a test of a value is one of another that is the same
pub test-is : {one two : Bool} {b : Bool} → one ≡ two → one ≡ b → two ≡ b
test-is e h = sym e ∙ h

module _ (given : List ℕ → Result (List ℕ) SendError → Item) (a : Asked) where
  -- what is kept if the query goes on, and if it has ended
  goes-on : (kept gone kept' gone' : Type 0) (o : LookupOutcome) (t : QueryOutcome) → ends t ≡ false → (kept → kept') → GoesBy given a kept gone o t → GoesBy given a kept' gone' o t
  goes-on kept gone kept' gone' Led_to.Nothing t h f g = (g.0, f g.1)
  goes-on kept gone kept' gone' (Led_to.Send x) t h f g = (g.0, f g.1)
  goes-on kept gone kept' gone' (Led_to.Connect x) t h f g = (g.0, f g.1)
  goes-on kept gone kept' gone' (Led_to.Answer r) t h f g = let no : ends (Reply g.0) ≡ false = ap ends (sym g.1) ∙ h in absurd (cc)

  goes-out : (kept gone kept' gone' : Type 0) (o : LookupOutcome) (t : QueryOutcome) → ends t ≡ true → gone' → GoesBy given a kept gone o t → GoesBy given a kept' gone' o t
  goes-out kept gone kept' gone' Led_to.Nothing t h f g = let no : ends Nothing ≡ true = ap ends (sym g.0) ∙ h in absurd (cc)
  goes-out kept gone kept' gone' (Led_to.Send x) t h f g = let no : ends (Send x) ≡ true = ap ends (sym g.0) ∙ h in absurd (cc)
  goes-out kept gone kept' gone' (Led_to.Connect x) t h f g = let no : ends (Connect x) ≡ true = ap ends (sym g.0) ∙ h in absurd (cc)
  goes-out kept gone kept' gone' (Led_to.Answer r) t h f g = (g.0, g.1, g.2, f)

module _ {R : Type 0} (rewriting : R → Msg → Msg) (given : List ℕ → Result (List ℕ) SendError → Item) where
  pub placed-on : (p : Option (Query R)) (q new : Query R) (a : Option Asked) (e : LookupEvent) (t : QueryOutcome) → p ≡ Some q → ((x : Asked) → Stands rewriting q x → Goes rewriting given x e t new)
      → ends t ≡ false → StandsAt rewriting p a → GoesAt rewriting given a e t (Some new)
  placed-on p q new None e t is goes h s = absurd (subst (λ (x : Option (Query R)). StandsAt rewriting x None) is s)
  placed-on p q new (Some a) e t is goes h s =
      goes-on given (with_event a e) (Stands rewriting new (with_event a e)) (Unit {0}) (Stands rewriting new (with_event a e)) (StandsAt rewriting (Some new) None) (outcome_after a e) t h (λ x. x)
      (goes a (subst (λ (x : Option (Query R)). StandsAt rewriting x (Some a)) is s))

  pub placed-out : (p : Option (Query R)) (q new : Query R) (a : Option Asked) (e : LookupEvent) (t : QueryOutcome) → p ≡ Some q → ((x : Asked) → Stands rewriting q x → Goes rewriting given x e t new)
      → ends t ≡ true → StandsAt rewriting p a → GoesAt rewriting given a e t None
  placed-out p q new None e t is goes h s = absurd (subst (λ (x : Option (Query R)). StandsAt rewriting x None) is s)
  placed-out p q new (Some a) e t is goes h s =
      goes-out given (with_event a e) (Stands rewriting new (with_event a e)) (Unit {0}) ⊥ (StandsAt rewriting None None) (outcome_after a e) t h tt
      (goes a (subst (λ (x : Option (Query R)). StandsAt rewriting x (Some a)) is s))

  -- no query is at the place
  pub none-there : (p : Option (Query R)) (a : Option Asked) (e : LookupEvent) → p ≡ None → StandsAt rewriting p a → GoesAt rewriting given a e Nothing p
  none-there p None e is s = (s, refl)
  none-there p (Some a) e is s = absurd (subst (λ (x : Option (Query R)). StandsAt rewriting x (Some a)) is s)

  module _ {F : Type 0} (after_give : F → List ℕ → ℕ → Result (List ℕ) SendError → F) where
    pub front-placed : (p : Option (Query R)) (q : Query R) (a : Option Asked) (e : LookupEvent) (old new : F) → p ≡ Some q → ((x : Asked) → Stands rewriting q x → FrontAfter after_give x e old new)
        → StandsAt rewriting p a → new ≡ front_at after_give a e old
    front-placed p q None e old new is after s = absurd (subst (λ (x : Option (Query R)). StandsAt rewriting x None) is s)
    front-placed p q (Some a) e old new is after s = after a (subst (λ (x : Option (Query R)). StandsAt rewriting x (Some a)) is s)

    pub front-none : (p : Option (Query R)) (a : Option Asked) (e : LookupEvent) (old : F) → p ≡ None → StandsAt rewriting p a → old ≡ front_at after_give a e old
    front-none p None e old is s = refl
    front-none p (Some a) e old is s = absurd (subst (λ (x : Option (Query R)). StandsAt rewriting x (Some a)) is s)

  -- what is sent if no place is free
  pub refused : (q : Query R) (a : Asked) (o : Option (List ℕ)) (r : Result (List ℕ) SendError) → o ≡ replied q.limit q.request.octets (rewritten (rewriting q.rule) (given q.request.octets r)) → Stands rewriting q a
      → outputs_to a.came o ≡ sent_for given a.front a.dgram a.came (Ready r)
  refused q a o r is s = subst (λ (x : Option (List ℕ)). outputs_to a.came x ≡ sent_for given a.front a.dgram a.came (Ready r)) (sym is)
      (subst (λ (m : List ℕ). outputs_to a.came (replied q.limit m (rewritten (rewriting q.rule) (given m r))) ≡ sent_for given a.front a.dgram a.came (Ready r)) (sym s.octets) (s.replies (given (message_of a.came) r)))

  module _ {F : Type 0} (after_give : F → List ℕ → ℕ → Result (List ℕ) SendError → F) where
    pub gave-so : (q : Query R) (a : Asked) (old new : F) (r : Result (List ℕ) SendError) → new ≡ after_give old q.request.octets q.request.received_secs r → Stands rewriting q a
        → new ≡ after_give old (message_of a.came) a.came.secs r
    gave-so q a old new r is s = is ∙ (ap (λ (m : List ℕ). after_give old m q.request.received_secs r) s.octets ∙ ap (λ (n : ℕ). after_give old (message_of a.came) n r) s.secs)

pub free_so : {Q : Type 0} (p : Option ℕ) (A : Type 0) (k : ℕ) (mid old : List (Option Q)) → p ≡ Some k → MatchOption p A (λ j. slice_get mid j ≡ Some None) → kept_at k mid ≡ kept_at k old → kept_at k old ≡ None
free_so {Q} p A k mid old is free e =
    let there : slice_get mid k ≡ Some None = subst (λ (x : Option ℕ). MatchOption x A (λ j. slice_get mid j ≡ Some None)) is free in
    sym e ∙ ap (λ (x : Option (Option Q)). option_and_then (λ (q : Option Q). q) x) there

module _ {R : Type 0} (rewriting : R → Msg → Msg) (given : List ℕ → Result (List ℕ) SendError → Item) {F : Type 0} (after_give : F → List ℕ → ℕ → Result (List ℕ) SendError → F) (after_take : F → Req (Unit {0}) → F)
    (bound : ℕ) (when : WhenFull) (f : Fronting) (dgram : Dgram) (c : ClientMessage) (u : UpstreamConfig) (id : ℕ) (front : F) (before : List (Option (Query R))) where
  pub starts_sent : (o : Option (List ℕ)) (new : F) → Begins rewriting f dgram c u id (Begun.Sent o) → new ≡ front_taken after_take dgram c front
      → Starts rewriting given after_give after_take bound when f dgram c u id front before (Sent o) new before
  starts_sent o new says taken =
      subst (λ (m : Option (List ℕ)). StartsBy rewriting given after_give m bound when f dgram c u id (front_taken after_take dgram c front) before (Sent o) new before) (sym says.0) ((λ k. refl), says.1, taken)

  pub starts_short : (new : F) → Begins rewriting f dgram c u id Begun.Short → new ≡ front_taken after_take dgram c front
      → Starts rewriting given after_give after_take bound when f dgram c u id front before Short new before
  starts_short new says taken =
      subst (λ (m : Option (List ℕ)). StartsBy rewriting given after_give m bound when f dgram c u id (front_taken after_take dgram c front) before Short new before) (sym says.0) ((λ k. refl), says.1, taken)

  -- what is asked enters
  pub asks_start : (q : Query R) (octets : List ℕ) (new : F) (s : Started) (after : List (Option (Query R))) → Begins rewriting f dgram c u id (Begun.Asks q octets)
      → ((a : Asked) → Stands rewriting q a → Enters rewriting given after_give bound when a octets front before s new after)
      → StartsBy rewriting given after_give (asked_for f dgram c) bound when f dgram c u id front before s new after
  asks_start q octets new s after says enters =
      let a : Asked = record { front = f; dgram = dgram; came = c; upstream = u; message = says.0; id = id; events = [] } in
      subst (λ (m : Option (List ℕ)). StartsBy rewriting given after_give m bound when f dgram c u id front before s new after) (sym says.1)
      (subst (λ (o : List ℕ). Enters rewriting given after_give bound when a o front before s new after) says.2 (enters a says.3))

  pub starts_asks : (q : Query R) (octets : List ℕ) (mid new : F) (s : Started) (after : List (Option (Query R))) → Begins rewriting f dgram c u id (Begun.Asks q octets) → mid ≡ front_taken after_take dgram c front
      → ((a : Asked) → Stands rewriting q a → Enters rewriting given after_give bound when a octets mid before s new after)
      → Starts rewriting given after_give after_take bound when f dgram c u id front before s new after
  starts_asks q octets mid new s after says taken enters =
      let a : Asked = record { front = f; dgram = dgram; came = c; upstream = u; message = says.0; id = id; events = [] } in
      subst (λ (m : Option (List ℕ)). StartsBy rewriting given after_give m bound when f dgram c u id (front_taken after_take dgram c front) before s new after) (sym says.1)
      (subst (λ (x : F). Enters rewriting given after_give bound when a (with_id id says.0) x before s new after) taken
      (subst (λ (o : List ℕ). Enters rewriting given after_give bound when a o mid before s new after) says.2 (enters a says.3)))

module _ {R : Type 0} (rewriting : R → Msg → Msg) where
  -- when a tick is due is read of the query at a place
  pub due-none : (p : Option (Query R)) (a : Option Asked) → p ≡ None → StandsAt rewriting p a → None ≡ due_there a
  due-none p None is s = refl
  due-none p (Some a) is s = absurd (subst (λ (x : Option (Query R)). StandsAt rewriting x (Some a)) is s)

  pub due-some : (p : Option (Query R)) (q : Query R) (a : Option Asked) (due : Option ℕ) → p ≡ Some q → ((x : Asked) → Stands rewriting q x → due ≡ due_of x) → StandsAt rewriting p a → due ≡ due_there a
  due-some p q None due is h s = absurd (subst (λ (x : Option (Query R)). StandsAt rewriting x None) is s)
  due-some p q (Some a) due is h s = h a (subst (λ (x : Option (Query R)). StandsAt rewriting x (Some a)) is s)
