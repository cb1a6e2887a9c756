-- At a spent slate an event says nothing and leaves all but the configurations, and no client is spent before it begins.
use Rattle.dns_session.specs.Serving.{Serving}
use Rattle.std.proofs.Common.{◌≡◌, ℕ, zero, suc, List, [], ◌∷◌, true, false, refl, ap, ◌∙◌}
use Rattle.std.specs.Prelude.{slice_get}
use Rattle.std.specs.List.{list_all}
use Rattle.std.proofs.lemmas.Bool.{and_parts}
use Rattle.dns_service.specs.Answer.{Answer}
use Rattle.dns_events.specs.declared.event.Event.{Event}
use Rattle.dns_events.specs.declared.event.EventKind.{EventKind}
use Rattle.dns_events.specs.declared.event.EventKind.TheVariants.{Turn, Release, Reconfigure, Shutdown}
use Rattle.dns_events.specs.declared.event.Why.{Why}
use Rattle.dns_events.specs.declared.event.Why.TheVariants.{Shutdown as By_shutdown}
use Rattle.dns_service.specs.declared.polled.PolledRequest.{PolledRequest}
use Rattle.dns_session.specs.Slate.{Slate, SlateRequest, Conf, Effect, Phase, Exchange, Open, Closed, conf_rule, with_conf}
use Rattle.dns_session.specs.Connections.{wind_up, reconfigured}
use Rattle.dns_session.specs.Rule.{rule, in_phase, exchange_rule, open_rule, closed_rule}
use Rattle.dns_session.specs.Spent.{is_spent, is_spent_in}
use Rattle.dns_session.specs.Stands.{StandsIn}
use Rattle.dns_session.specs.declared.client.State.{State}
use Rattle.dns_session.specs.declared.client.State.TheVariants.{Exchange as Is_exchange, Open as Is_open, Flushing as Is_flushing, Closed as Is_closed, Lost as Is_lost}
use Rattle.dns_core.specs.Finished.{IsFinished}
use Rattle.dns_core.specs.Out.{is_unused}
use Rattle.dns_core.specs.Own.{is_wide}
use Rattle.dns_core.specs.Trails.{is_open}
use Rattle.dns_core.proofs.Plain.{exchange_done, unused_is}
use Rattle.dns_core.proofs.Settled.{released_again}
use Rattle.dns_core.proofs.Wide.{wide_idle}

all_finished : (rs : List SlateRequest) (k : ℕ) → list_all (λ (r : SlateRequest). r.done) rs ≡ true → IsFinished (slice_get rs k)
all_finished [] k h = tt
all_finished (r ∷ rs) zero h = (and_parts r.done (list_all (λ (r : SlateRequest). r.done) rs) h).0
all_finished (r ∷ rs) (suc k) h = all_finished rs k (and_parts r.done (list_all (λ (r : SlateRequest). r.done) rs) h).1

closed_spent : (k : EventKind) (s : Slate) → s.freed ≡ true → closed_rule k s ≡ (s, [])
closed_spent Release s h = ap (λ (t : Slate). (t, [])) (released_again s h)
closed_spent _ s h = refl

conf_spent : (p : Phase) (s : Slate) (k : Conf) → is_spent_in p (with_conf k s) ≡ is_spent_in p s
conf_spent Exchange s k = refl
conf_spent Closed s k = refl
conf_spent _ s k = refl

wound_unspent : (why : Why) (q : List (List ℕ)) (s : Slate) → s.freed ≡ false → is_spent (wind_up why q s).0 ≡ false
wound_unspent why [] s h = h
wound_unspent why (m ∷ ms) s h = refl

module _ (answers : Serving) where
  exchange_spent : (k : EventKind) (s : Slate) → list_all (λ (r : SlateRequest). r.done) s.requests ≡ true → exchange_rule answers k s ≡ (s, [])
  exchange_spent (Turn k) s h = exchange_done answers k (slice_get s.requests k) s (all_finished s.requests k h)
  exchange_spent _ s h = refl

  spent_phase : (e : Event) (p : Phase) (s : Slate) (k : Conf) → is_spent_in p s ≡ true → in_phase answers e p (with_conf k s) ≡ (with_conf k s, [])
  spent_phase e Exchange s k h = exchange_spent e.kind (with_conf k s) h
  spent_phase e Closed s k h = closed_spent e.kind (with_conf k s) h
  spent_phase e _ s k h = cc

  pub spent_idle : (e : Event) (s : Slate) → is_spent s ≡ true → rule answers e s ≡ (with_conf (conf_rule e.kind s.conf) s, [])
  spent_idle e s h = spent_phase e s.phase s (conf_rule e.kind s.conf) h

  -- what is spent stays so
  pub spent_kept : (e : Event) (s : Slate) → is_spent s ≡ true → is_spent (rule answers e s).0 ≡ true
  spent_kept e s h = ap (λ (t : Effect). is_spent t.0) (spent_idle e s h) ∙ (conf_spent s.phase s (conf_rule e.kind s.conf) ∙ h)

  pub open_unspent : (e : Event) (k : EventKind) (s : Slate) → s.phase ≡ Open → s.freed ≡ false → is_wide k ≡ true → is_spent (open_rule answers e k s).0 ≡ false
  open_unspent e (Reconfigure dgram stream) s p f w = ap (λ (x : Phase). is_spent_in x (reconfigured stream.connection_config s)) p
  open_unspent e Shutdown s p f w = wound_unspent By_shutdown s.queue s f
  open_unspent e _ s p f w = cc

  pub idle_unspent : (e : Event) (s : Slate) → is_wide e.kind ≡ true → is_open s.phase ≡ false → is_spent s ≡ false → is_spent (rule answers e s).0 ≡ false
  idle_unspent e s w o h = ap (λ (t : Effect). is_spent t.0) (wide_idle answers e s w o) ∙ (conf_spent s.phase s (conf_rule e.kind s.conf) ∙ h)

-- an event that all hear leaves no client spent that wasn't
pub wide_unspent : {W R F : Type 0} (answer : PolledRequest F R → ℕ → Answer) (answers : Serving) (n : ℕ) (state : State W R F) (e : Event) (s : Slate)
    → StandsIn answer answers n state s → is_wide e.kind ≡ true → is_spent s ≡ false → is_spent (rule answers e s).0 ≡ false
wide_unspent answer answers n (Is_exchange kept) e s h w u = idle_unspent answers e s w (ap is_open h.phase) u
wide_unspent answer answers n (Is_open c) e s h w u =
    let t = with_conf (conf_rule e.kind s.conf) s in
    ap (λ (p : Phase). is_spent (in_phase answers e p t).0) h.phase ∙ open_unspent answers e e.kind t h.phase h.freed w
wide_unspent answer answers n (Is_flushing c) e s h w u = idle_unspent answers e s w (ap is_open h.phase) u
wide_unspent answer answers n (Is_closed freed) e s h w u = idle_unspent answers e s w (ap is_open h.phase) u
wide_unspent answer answers n Is_lost e s h w u = absurd h

-- an unused slate isn't spent
pub unused_unspent : (s : Slate) → is_unused s.phase ≡ true → is_spent s ≡ false
unused_unspent s u = ap (λ (p : Phase). is_spent_in p s) (unused_is s.phase u)
