-- What a client's events queue in one window of time: no more than its configurations allow. By state: an event that all hear sets the
-- configurations first.
use Rattle.dns_session.specs.Serving.{Serving}
use Rattle.std.proofs.Common.{◌≡◌, ◌≢◌, ℕ, zero, suc, ◌+◌, ◌/◌, ◌<◌, ◌≤◌, List, [], ◌∷◌, Bool, true, false, refl, ap, sym, ◌∙◌, subst, arith, All, ◌-◌}
use Rattle.std.specs.Prelude.{Some, slice_index_or, ◌==◌, if◌then◌else◌}
use Rattle.std.specs.List.Sorted.{IsNonDecreasingBy}
use Rattle.std.proofs.Math.Nat.{div-mul-le_self, div-zero}
use Rattle.std.proofs.lemmas.Bool.{eqb-true, eqb-false, ne_eqb}
use Rattle.std.proofs.lemmas.List.Elements.{All-head, All-tail}
use Rattle.std.proofs.lemmas.Nat.{le-div}
use Rattle.dns_core.proofs.Late.{shutdown_shut}
use Rattle.dns_name.specs.declared.address.SocketAddr.{SocketAddr}
use Rattle.dns_service.specs.Config.{Connection, Dgram, Stream, IsBudget}
use Rattle.dns_events.specs.declared.event.Event.{Event}
use Rattle.dns_events.specs.declared.event.EventKind.{EventKind}
use Rattle.dns_events.specs.declared.event.EventKind.TheVariants.{Datagram, Offer, Reconfigure, Shutdown}
use Rattle.dns_session.specs.After.{slate_after}
use Rattle.dns_session.specs.Budget.{is_mark}
use Rattle.dns_session.specs.Slate.{Slate, Effect, Conf, Phase, Open, fresh, conf_rule, with_conf}
use Rattle.dns_session.specs.Datagrams.{datagram}
use Rattle.dns_session.specs.Connections.{opened}
use Rattle.dns_session.specs.Rule.{rule, in_phase, unused_rule}
use Rattle.dns_core.specs.Budgets.{AllowsAtMost, StaysAtMost, queued_in}
use Rattle.dns_core.specs.Settings.{opening}
use Rattle.dns_core.specs.Trails.{is_open}
use Rattle.dns_events.specs.declared.settings.Settings.{Settings}
use Rattle.dns_core.proofs.Grows.{Grows, carries, growth, grows, is_reconfigure, left_in}
use Rattle.dns_core.proofs.Plain.{narrow_conf, rule_conf, unused_is}
use Rattle.dns_session.proofs.Walks.{walks}
use Rattle.dns_core.specs.Own.{is_wide}
use Rattle.dns_core.specs.Out.{is_unused}

-- an open connection has the budget of the configuration in force
record Agrees (s : Slate) : Type 0 where
  over : s.conf.over ≡ false
  budget : s.connection.response_budget ≡ s.conf.stream.connection_config.response_budget
  window : s.connection.budget_window ≡ s.conf.stream.connection_config.budget_window

abbrev Follows : Slate → Type 0
Follows s = is_open s.phase ≡ true → Agrees s

unopened : (s : Slate) → is_open s.phase ≡ false → Follows s
unopened s shut = λ o. cc

-- an event at a moment, if the configuration in force allows at most b
record Steps (b at : ℕ) (s t : Slate) : Type 0 where
  follows : Follows t
  gains : (w : ℕ) → AllowsAtMost b w s.conf.stream.connection_config → growth s t + left_in b (at / w) t ≤ left_in b (at / w) s

-- if it allows whatever it may
record Idles (b at : ℕ) (s t : Slate) : Type 0 where
  follows : Follows t
  gains : (w : ℕ) → growth s t + left_in b (at / w) t ≤ left_in b (at / w) s

idle : (b at : ℕ) (s : Slate) → is_open s.phase ≡ false → Idles b at s s
idle b at s shut = record { follows = unopened s shut; gains = λ w. omega arith }

agrees_on : (b at : ℕ) (s t u : Slate) → t.conf ≡ s.conf → t.connection ≡ s.connection → Grows b at t u → Agrees s → Agrees u
agrees_on b at s t u c k g a = record {
  over = ap (λ (x : Conf). x.over) (g.conf ∙ c) ∙ a.over;
  budget = g.budget ∙ (ap (λ (x : Connection). x.response_budget) k ∙ (a.budget ∙ sym (ap (λ (x : Conf). x.stream.connection_config.response_budget) (g.conf ∙ c))));
  window = g.window ∙ (ap (λ (x : Connection). x.budget_window) k ∙ (a.window ∙ sym (ap (λ (x : Conf). x.stream.connection_config.budget_window) (g.conf ∙ c))));
}

left_most : (x : Bool) (b spent : ℕ) → (if x then b - spent else b) ≤ b
left_most true b spent = omega arith
left_most false b spent = omega arith

-- windows follow one another
windows_rise : (m n w : ℕ) → m ≤ n → m / w ≤ n / w
windows_rise m n zero h = omega (arith, div-zero m, div-zero n)
windows_rise m n (suc w) h = le-div (m / suc w) n (suc w) (omega arith) (omega (arith, h, div-mul-le_self m (suc w)))

rises_tail : (e : Event) (es : List Event) → IsNonDecreasingBy (λ (f : Event). f.at) (e ∷ es) → IsNonDecreasingBy (λ (f : Event). f.at) es
rises_tail e es h = λ i j d le lt. h (suc i) (suc j) d (omega (arith, le)) (omega (arith, lt))

later_windows : (w : ℕ) (e : Event) (es : List Event) → IsNonDecreasingBy (λ (f : Event). f.at) (e ∷ es) → All (λ (f : Event). e.at / w ≤ f.at / w) es
later_windows w e es h = λ k d lt. windows_rise e.at (slice_index_or es k d).at w (h zero (suc k) d (omega arith) (omega (arith, lt)))

module _ (answers : Serving) (b : ℕ) (fits : IsBudget (Some b)) where
  offer_case : (over : Bool) (e : Event) (addr : SocketAddr) (s : Slate) → s.conf.over ≡ over → is_open s.phase ≡ false → let r : Effect = (if over then (s, []) else (opened e.client addr e.at s, [])) in Idles b e.at s r.0
  offer_case true e addr s is shut = idle b e.at s shut
  offer_case false e addr s is shut = record { follows = λ o. record { over = is; budget = refl; window = refl }; gains = λ w. omega arith }

  datagram_case : (over : Bool) (e : Event) (addr : SocketAddr) (o : List ℕ) (s : Slate) → is_open s.phase ≡ false → let r : Effect = (if over then (s, []) else datagram e.client addr e.at e.secs o s) in Idles b e.at s r.0
  datagram_case true e addr o s shut = idle b e.at s shut
  datagram_case false e addr o s shut = record { follows = λ x. cc; gains = λ w. omega arith }

  unused_on : (e : Event) (k : EventKind) (s : Slate) → is_open s.phase ≡ false → Idles b e.at s (unused_rule e k s).0
  unused_on e (Datagram addr o) s shut = datagram_case s.conf.over e addr o s shut
  unused_on e (Offer addr) s shut = offer_case s.conf.over e addr s refl shut
  unused_on e _ s shut = idle b e.at s shut

  -- of a client that began
  grown : (e : Event) (s : Slate) → is_unused s.phase ≡ false → is_reconfigure e.kind ≡ false → Grows b e.at (with_conf (conf_rule e.kind s.conf) s) (rule answers e s).0
  grown e s u n = walks answers e (λ s t. is_unused s.phase ≡ false → Grows b e.at s t.0) (grows answers b e fits n) s u

  may_queue : (e : Event) (s t : Slate) → Follows s → Grows b e.at (with_conf (conf_rule e.kind s.conf) s) t → (w : ℕ) → AllowsAtMost b w s.conf.stream.connection_config → growth s t + left_in b (e.at / w) t ≤ left_in b (e.at / w) s
  may_queue e s t f g w most = g.gains w (λ o. let a = f o in carries b w s.conf.stream.connection_config s.connection a.budget a.window most)

  reconfigured_on : (e : Event) (dgram : Dgram) (stream : Stream) (s : Slate) (p : Phase) → s.phase ≡ p → e.kind ≡ Reconfigure dgram stream → Follows s → is_unused p ≡ false → Steps b e.at s (in_phase answers e p (with_conf (conf_rule e.kind s.conf) s)).0
  reconfigured_on e dgram stream s Open at is f u = let over = (f (ap is_open at)).over in rw (is, over) (record { follows = λ o. record { over = refl; budget = refl; window = refl }; gains = λ w most. omega arith })
  reconfigured_on e dgram stream s p at is f u = rw is (record { follows = λ o. let no = ap is_open at in cc; gains = λ w most. omega arith })

  used_on : (e : Event) (k : EventKind) (s : Slate) → e.kind ≡ k → Follows s → is_unused s.phase ≡ false → Steps b e.at s (rule answers e s).0
  used_on e (Reconfigure dgram stream) s is f u = reconfigured_on e dgram stream s s.phase refl is f u
  used_on e Shutdown s is f u =
      let g = grown e s u (ap is_reconfigure is) in
      record { follows = unopened (rule answers e s).0 (shutdown_shut answers s.phase e (with_conf (conf_rule e.kind s.conf) s) is refl); gains = may_queue e s (rule answers e s).0 f g }
  used_on e _ s is f u =
      let g = grown e s u (ap is_reconfigure is) in
      record { follows = λ o. agrees_on b e.at s (with_conf (conf_rule e.kind s.conf) s) (rule answers e s).0 (narrow_conf e.kind s.conf (ap is_wide is)) refl g (f (g.opens o)); gains = may_queue e s (rule answers e s).0 f g }

  step_case : (e : Event) (s : Slate) (u : Bool) → is_unused s.phase ≡ u → Follows s → Steps b e.at s (rule answers e s).0
  step_case e s true u f =
      let t = with_conf (conf_rule e.kind s.conf) s in
      let p = unused_is s.phase u in
      let i : Idles b e.at t (rule answers e s).0 = subst (λ (q : Phase). Idles b e.at t (in_phase answers e q t).0) (sym p) (unused_on e e.kind t (ap is_open p)) in
      record { follows = i.follows; gains = λ w most. i.gains w }
  step_case e s false u f = used_on e e.kind s refl f u

  steps : (e : Event) (s : Slate) → Follows s → Steps b e.at s (rule answers e s).0
  steps e s f = step_case e s (is_unused s.phase) refl f

  follows_after : (es : List Event) (s : Slate) → Follows s → Follows (slate_after answers s es)
  follows_after [] s f = f
  follows_after (e ∷ es) s f = follows_after es (rule answers e s).0 (steps e s f).follows

  module _ (w n : ℕ) where
    allows_case : (k : EventKind) (c : Conf) → AllowsAtMost b w c.stream.connection_config → StaysAtMost b w k → AllowsAtMost b w (conf_rule k c).stream.connection_config
    allows_case (Reconfigure dgram stream) c a stays =
        (elim c.over as (λ x. let d : Conf = (if x then c else record { dgram = dgram; stream = stream; over = false }) in AllowsAtMost b w d.stream.connection_config) [ true ↦ a | false ↦ stays ])
    allows_case Shutdown c a stays = a
    allows_case _ c a stays = a

    -- a slate on the way, and the events to come
    record Comes (s : Slate) (es : List Event) : Type 0 where
      follows : Follows s
      allows : AllowsAtMost b w s.conf.stream.connection_config
      stays : All (λ (e : Event). StaysAtMost b w e.kind) es
      rises : IsNonDecreasingBy (λ (e : Event). e.at) es

    comes_on : (e : Event) (es : List Event) (s : Slate) → Comes s (e ∷ es) → Comes (rule answers e s).0 es
    comes_on e es s c = record {
      follows = (steps e s c.follows).follows;
      allows = rw (rule_conf answers e s) (allows_case e.kind s.conf c.allows (All-head (λ (f : Event). StaysAtMost b w f.kind) e es c.stays));
      stays = All-tail (λ (f : Event). StaysAtMost b w f.kind) e es c.stays;
      rises = rises_tail e es c.rises;
    }

    -- once the window is past
    past : (es : List Event) (s : Slate) → All (λ (e : Event). n < e.at / w) es → queued_in answers w n s es ≡ 0
    past [] s h = refl
    past (e ∷ es) s h =
        let other : (e.at / w == n) ≡ false = ne_eqb (e.at / w) n (λ is. omega (arith, is, All-head (λ (f : Event). n < f.at / w) e es h)) in
        rw other (omega (arith, past es (rule answers e s).0 (All-tail (λ (f : Event). n < f.at / w) e es h)))

    -- from the window on
    abbrev QueuedBy : Bool → Slate → Slate → List Event → ℕ
    QueuedBy x s t es = (if x then growth s t else 0) + queued_in answers w n t es

    from_case : (x : Bool) (e : Event) (es : List Event) (s : Slate) → (e.at / w == n) ≡ x → Comes s (e ∷ es) → n ≤ e.at / w
        → queued_in answers w n (rule answers e s).0 es ≤ left_in b n (rule answers e s).0 → QueuedBy x s (rule answers e s).0 es ≤ left_in b n s
    from_case true e es s is c le more =
        let now : e.at / w ≡ n = eqb-true (e.at / w) n is in
        let g : growth s (rule answers e s).0 + left_in b n (rule answers e s).0 ≤ left_in b n s = rw now at ((steps e s c.follows).gains w c.allows) in
        omega (arith, g, more)
    from_case false e es s is c le more =
        let other : e.at / w ≢ n = eqb-false (e.at / w) n is in
        let none = past es (rule answers e s).0 (λ k d lt. omega (arith, later_windows w e es c.rises k d lt, le, other)) in
        rw none (omega arith)

    from : (es : List Event) (s : Slate) → Comes s es → All (λ (e : Event). n ≤ e.at / w) es → queued_in answers w n s es ≤ left_in b n s
    from [] s c le = omega arith
    from (e ∷ es) s c le = from_case (e.at / w == n) e es s refl c (All-head (λ (f : Event). n ≤ f.at / w) e es le) (from es (rule answers e s).0 (comes_on e es s c) (All-tail (λ (f : Event). n ≤ f.at / w) e es le))

    most_case : (x : Bool) (e : Event) (es : List Event) (s : Slate) → (e.at / w == n) ≡ x → Comes s (e ∷ es) → queued_in answers w n (rule answers e s).0 es ≤ b → QueuedBy x s (rule answers e s).0 es ≤ b
    most_case true e es s is c more =
        let now : e.at / w ≡ n = eqb-true (e.at / w) n is in
        let later : All (λ (f : Event). n ≤ f.at / w) es = λ k d lt. omega (arith, now, later_windows w e es c.rises k d lt) in
        let all = from_case true e es s is c (omega (arith, now)) (from es (rule answers e s).0 (comes_on e es s c) later) in
        omega (arith, all, left_most (is_mark s.mark n) b s.spent)
    most_case false e es s is c more = omega (arith, more)

    most : (es : List Event) (s : Slate) → Comes s es → queued_in answers w n s es ≤ b
    most [] s c = omega arith
    most (e ∷ es) s c = most_case (e.at / w == n) e es s refl c (most es (rule answers e s).0 (comes_on e es s c))

-- whatever a client heard
pub budgets_kept : (answers : Serving) (settings : Settings) (es fs : List Event) (b w n : ℕ) → IsBudget (Some b)
    → AllowsAtMost b w (slate_after answers (fresh (opening settings)) es).conf.stream.connection_config
    → All (λ (e : Event). StaysAtMost b w e.kind) fs → IsNonDecreasingBy (λ (e : Event). e.at) fs
    → queued_in answers w n (slate_after answers (fresh (opening settings)) es) fs ≤ b
budgets_kept answers settings es fs b w n fits allows stays rises =
    most answers b fits w n fs (slate_after answers (fresh (opening settings)) es)
    (record { follows = follows_after answers b fits es (fresh (opening settings)) (unopened (fresh (opening settings)) refl); allows = allows; stays = stays; rises = rises })
