-- What becomes of a slot by an event of its client.
use Rattle.dns_session.specs.Serving.{Serving}
use Rattle.std.proofs.Common.{◌≡◌, ℕ, ◌-◌, List, [], ◌∷◌, ◌++◌, Option, Some, None, Bool, true, false, refl, ap, sym, ◌∙◌}
use Rattle.std.specs.Prelude.{nat_eq, slice_get, if◌then◌else◌, not, ◌&&◌}
use Rattle.std.specs.List.{list_any}
use Rattle.std.specs.List.Sorted.{IsStrictlySortedBy}
use Rattle.std.specs.Ordering.{nat_cmp}
use Rattle.dns_service.specs.Answer.{Answer}
use Rattle.dns_events.specs.declared.event.Event.{Event}
use Rattle.dns_events.specs.declared.event.EventKind.{EventKind}
use Rattle.dns_events.specs.declared.event.EventKind.TheVariants.{Turn, Release}
use Rattle.dns_events.specs.declared.event.Output.{Output}
use Rattle.dns_service.specs.declared.polled.PolledRequest.{PolledRequest}
use Rattle.dns_session.specs.Slate.{Slate, Effect, Phase, Closed, conf_rule, with_conf}
use Rattle.dns_session.specs.Rule.{rule, in_phase, exchange_rule, closed_rule}
use Rattle.dns_session.specs.Spent.{is_spent, is_spent_in}
use Rattle.dns_session.specs.Stands.{StandsIn}
use Rattle.dns_session.specs.declared.client.ClientCore.{ClientCore}
use Rattle.dns_session.specs.declared.client.State.{State}
use Rattle.dns_session.specs.declared.client.State.TheVariants.{Exchange as Is_exchange, Open as Is_open, Flushing as Is_flushing, Closed as Is_closed, Lost as Is_lost}
use Rattle.dns_core.specs.Own.{is_wide}
use Rattle.dns_core.specs.Out.{is_connection, holds_slot, taken}
use Rattle.dns_core.specs.Sent.{slate}
use Rattle.dns_core.specs.Serves.{Holds, Steps}
use Rattle.dns_events.specs.declared.settings.Settings.{Settings}
use Rattle.dns_core.proofs.Counted.{one_less}
use Rattle.dns_core.proofs.Gained.{slate_same, slate_other, taken_absent}
use Rattle.dns_core.proofs.Plain.{is_going, slot_kept}
use Rattle.dns_core.proofs.Settled.{exchange_turned}
use Rattle.dns_core.proofs.Spent.{spent_idle}

-- a slot is given back exactly if the client is freed
pub record Slot (s t : Slate) (freed : Bool) : Type 0 where
  pub gone : freed ≡ true → (holds_slot s ≡ true) × (holds_slot t ≡ false)
  pub kept : freed ≡ false → holds_slot t ≡ holds_slot s

not_both : (a b : Bool) → (a && not b) ≡ true → b ≡ true → ⊥
not_both true true h f = cc
not_both true false h f = cc
not_both false b h f = cc

-- of one that isn't freed
unfreed : (s t : Slate) (freed : Bool) → freed ≡ false → holds_slot t ≡ holds_slot s → Slot s t freed
unfreed s t freed f kept = record { gone = λ g. let no : ⊥ = cc in absurd no; kept = λ _. kept }

-- of one that holds its slot on
held_on : (s t : Slate) (freed : Bool) → holds_slot s ≡ true → holds_slot t ≡ holds_slot s → freed ≡ t.freed → Slot s t freed
held_on s t freed held kept is = record { gone = λ g. absurd (not_both (is_connection t.phase) t.freed (kept ∙ held) (sym is ∙ g)); kept = λ _. kept }

closed_slot : (k : EventKind) (s : Slate) (freed : Bool) → s.phase ≡ Closed → s.freed ≡ false → freed ≡ (closed_rule k s).0.freed → Slot s (closed_rule k s).0 freed
closed_slot Release s freed p f is = record { gone = λ g. (rw (p, f) refl, rw p refl); kept = λ g. let no : ⊥ = cc in absurd no }
closed_slot _ s freed p f is = unfreed s s freed (is ∙ f) refl

-- whatever configurations the slate shows
shown_slot : (s u t : Slate) (freed : Bool) → holds_slot u ≡ holds_slot s → Slot u t freed → Slot s t freed
shown_slot s u t freed same h = record { gone = λ g. let k = h.gone g in (sym same ∙ k.0, k.1); kept = λ g. h.kept g ∙ same }

module _ (answers : Serving) where
  pub exchange_freed : (k : EventKind) (s : Slate) → (exchange_rule answers k s).0.freed ≡ s.freed
  exchange_freed (Turn k) s = (exchange_turned answers k (slice_get s.requests k) s).freed
  exchange_freed _ s = refl

-- of a client that isn't spent
state_slot : {W R F : Type 0} (answer : PolledRequest F R → ℕ → Answer) (answers : Serving) (n : ℕ) (state : State W R F) (e : Event) (s : Slate) (freed : Bool)
    → StandsIn answer answers n state s → is_spent s ≡ false → freed ≡ (rule answers e s).0.freed → Slot s (rule answers e s).0 freed
state_slot answer answers n (Is_exchange kept) e s freed h u is =
    let t = with_conf (conf_rule e.kind s.conf) s in
    unfreed s (rule answers e s).0 freed (is ∙ (ap (λ (p : Phase). (in_phase answers e p t).0.freed) h.phase ∙ (exchange_freed answers e.kind t ∙ h.freed))) (slot_kept answers e s (ap is_going h.phase))
state_slot answer answers n (Is_open c) e s freed h u is = held_on s (rule answers e s).0 freed (rw (h.phase, h.freed) refl) (slot_kept answers e s (ap is_going h.phase)) is
state_slot answer answers n (Is_flushing c) e s freed h u is = held_on s (rule answers e s).0 freed (rw (h.phase, h.freed) refl) (slot_kept answers e s (ap is_going h.phase)) is
state_slot answer answers n (Is_closed gone) e s freed h u is =
    let t = with_conf (conf_rule e.kind s.conf) s in
    let free : s.freed ≡ false = ap (λ (p : Phase). is_spent_in p s) (sym h.phase) ∙ u in
    let at : rule answers e s ≡ closed_rule e.kind t = ap (λ (p : Phase). in_phase answers e p t) h.phase in
    let sl : Slot t (closed_rule e.kind t).0 freed = closed_slot e.kind t freed h.phase free (is ∙ ap (λ (x : Effect). x.0.freed) at) in
    rw at (shown_slot s t (closed_rule e.kind t).0 freed refl sl)
state_slot answer answers n Is_lost e s freed h u is = absurd h

module _ {W R F : Type 0} (answer : PolledRequest F R → ℕ → Answer) (answers : Serving) where
  -- of a member
  member_slot : (o w : Option (ClientCore W R F)) (b : Bool) (e : Event) (outs : List Output) (finished freed : Bool) (s : Slate) → b ≡ true → Steps answer answers o e outs finished freed w → Holds answer answers o b s → Slot s (rule answers e s).0 freed
  member_slot None w true e outs finished freed s m k h = unfreed s (rule answers e s).0 freed k.2 (ap (λ (t : Effect). holds_slot t.0) (spent_idle answers e s h))
  member_slot (Some core) None true e outs finished freed s m k h = absurd k
  member_slot (Some core) (Some new) true e outs finished freed s m k h = let f = k.0 s h.0 in state_slot answer answers core.client core.state e s freed h.0 h.1 (k.1 (rule answers e s).0 f.1).free
  member_slot o w false e outs finished freed s m k h = cc

  -- and of a client that is none
  other_slot : (o w : Option (ClientCore W R F)) (b : Bool) (e : Event) (outs : List Output) (finished freed : Bool) (s : Slate) → b ≡ false → Steps answer answers o e outs finished freed w → Holds answer answers o b s → freed ≡ false
  other_slot None w b e outs finished freed s m k h = k.2
  other_slot (Some core) w true e outs finished freed s m k h = cc
  other_slot (Some core) w false e outs finished freed s m k h = absurd h

  -- how many are taken after an event of one client
  pub slots_case : (settings : Settings) (b : Bool) (o w : Option (ClientCore W R F)) (q : List Event) (e : Event) (outs : List Output) (finished freed : Bool) (ms : List ℕ)
      → list_any (nat_eq e.client) ms ≡ b
      → is_wide e.kind ≡ false
      → Steps answer answers o e outs finished freed w
      → Holds answer answers o b (slate answers settings e.client q)
      → IsStrictlySortedBy nat_cmp ms
      → taken answers settings (q ++ e ∷ []) ms ≡ (if freed then taken answers settings q ms - 1 else taken answers settings q ms)
  unfolding taken
  slots_case settings false o w q e outs finished freed ms there n st h so = rw (other_slot o w false e outs finished freed (slate answers settings e.client q) refl st h) (taken_absent answers settings q e ms n there)
  slots_case settings true o w q e outs finished freed ms there n st h so =
      let s = slate answers settings e.client q in
      let sl : Slot s (slate answers settings e.client (q ++ e ∷ [])) freed = rw (slate_same answers settings q e) (member_slot o w true e outs finished freed s refl st h) in
      one_less (λ c. holds_slot (slate answers settings c q)) (λ c. holds_slot (slate answers settings c (q ++ e ∷ []))) e.client ms freed so there (λ y apart. ap holds_slot (slate_other answers settings y q e n apart)) sl.gone sl.kept
