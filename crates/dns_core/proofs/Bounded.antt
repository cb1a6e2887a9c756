-- A queue keeps the bound that it had at admission, and its length stays within it. By state: an event that all hear sets the
-- configurations first, which say nothing of either.
use Rattle.dns_session.specs.Serving.{Serving}
use Rattle.std.proofs.Common.{◌≡◌, ℕ, ◌≤◌, List, [], ◌∷◌, ◌++◌, length, length-append, Bool, true, false, refl, ap, ◌∙◌, arith, ltb-true}
use Rattle.std.specs.Prelude.{nat_lt, if◌then◌else◌}
use Rattle.std.proofs.lemmas.Bool.{and_parts}
use Rattle.dns_name.specs.declared.address.SocketAddr.{SocketAddr}
use Rattle.dns_events.specs.declared.event.Event.{Event}
use Rattle.dns_events.specs.declared.event.EventKind.{EventKind}
use Rattle.dns_events.specs.declared.event.EventKind.TheVariants.{Datagram, Offer}
use Rattle.dns_events.specs.declared.event.Why.{Why}
use Rattle.dns_session.specs.After.{slate_after}
use Rattle.dns_session.specs.Slate.{Slate, Effect, Phase, fresh, conf_rule, with_conf}
use Rattle.dns_session.specs.Datagrams.{datagram}
use Rattle.dns_session.specs.Budget.{allows}
use Rattle.dns_session.specs.Connections.{opened, close, append_frame, room, spending, written, flushed}
use Rattle.dns_session.specs.Rule.{rule, in_phase, unused_rule}
use Rattle.dns_core.specs.Settings.{opening}
use Rattle.dns_core.specs.Out.{is_unused}
use Rattle.dns_events.specs.declared.settings.Settings.{Settings}
use Rattle.dns_core.proofs.Placing.{slate_append}
use Rattle.dns_core.proofs.Plain.{offered, rule_used, unused_is}
use Rattle.dns_session.proofs.Walks.{Walks, walks}

-- the bound stays, and what was within it stays so
pub record Bounds (s t : Slate) : Type 0 where
  pub bound : t.bound ≡ s.bound
  pub within : length s.queue ≤ s.bound → length t.queue ≤ t.bound

same : (s : Slate) → Bounds s s
same s = record { bound = refl; within = λ h. h }

alike : (s t : Slate) → t.bound ≡ s.bound → t.queue ≡ s.queue → Bounds s t
alike s t b q = record { bound = b; within = λ h. rw (b, q) h }

then_on : (s t u : Slate) → Bounds s t → Bounds t u → Bounds s u
then_on s t u g h = record { bound = h.bound ∙ g.bound; within = λ x. h.within (g.within x) }

closes : (why : Why) (s : Slate) → Bounds s (close why s).0
closes why s = record { bound = refl; within = λ h. omega arith }

-- a frame more, if there is room
appends : (at : ℕ) (m : List ℕ) (s : Slate) → room at s ≡ true → Bounds s (append_frame at m s)
appends at m s free =
    let short = (and_parts (nat_lt (length s.queue) s.bound) (allows at (spending s)) free).0 in
    record { bound = refl; within = λ h. simp length-append (omega (arith, ltb-true (length s.queue) s.bound short)) }

-- the front goes
fronts : (m : List ℕ) (ms : List (List ℕ)) (s t : Slate) → s.queue ≡ m ∷ ms → t.bound ≡ s.bound → t.queue ≡ ms → Bounds s t
fronts m ms s t is b q = record { bound = b; within = λ h. let h' : length (m ∷ ms) ≤ s.bound = rw is at h in rw (b, q) (omega (arith, h')) }

written_on : (at : ℕ) (m : List ℕ) (ms : List (List ℕ)) (s : Slate) → s.queue ≡ m ∷ ms → Bounds s (written at m ms s).0
written_on at m [] s is = fronts m [] s (written at m [] s).0 is refl refl
written_on at m (n ∷ ms) s is = fronts m (n ∷ ms) s (written at m (n ∷ ms) s).0 is refl refl

flushed_on : (why : Why) (m : List ℕ) (ms : List (List ℕ)) (s : Slate) → s.queue ≡ m ∷ ms → Bounds s (flushed why m ms s).0
flushed_on why m [] s is = closes why s
flushed_on why m (n ∷ ms) s is = fronts m (n ∷ ms) s (flushed why m (n ∷ ms) s).0 is refl refl

module _ (answers : Serving) where
  bounds : (e : Event) → Walks answers e (λ s t. is_unused s.phase ≡ false → Bounds s t.0)
  bounds e = record {
    stays = λ s u. same s;
    goes = λ s t effect p g h u. then_on s t effect.0 (g u) (h (ap is_unused p ∙ u));
    exchanges = λ addr o s is p over u. let x = ap is_unused p in cc;
    opens = λ addr s is p over u. let x = ap is_unused p in cc;
    polls = λ k r s is p at d u. record { bound = refl; within = λ h. h };
    receives = λ o s p u. record { bound = refl; within = λ h. h };
    counts = λ s p u. record { bound = refl; within = λ h. h };
    asks = λ f s p u. record { bound = refl; within = λ h. h };
    retimes = λ a s p u. record { bound = refl; within = λ h. h };
    sets = λ k r s p u. record { bound = refl; within = λ h. h };
    queues = λ m s p free u. appends e.at m s free;
    writes = λ m ms s p is u. written_on e.at m ms s is;
    flushes = λ why m ms s p is u. flushed_on why m ms s is;
    closes = λ why s c u. closes why s;
    winds = λ why m ms s p is u. record { bound = refl; within = λ h. h };
    reconfigures = λ dgram stream s is p u. record { bound = refl; within = λ h. h };
    releases = λ s is p u. record { bound = refl; within = λ h. h };
  }

  -- of one that began
  pub rule_bounds : (e : Event) (s : Slate) → is_unused s.phase ≡ false → Bounds s (rule answers e s).0
  rule_bounds e s u =
      let t = with_conf (conf_rule e.kind s.conf) s in
      then_on s t (rule answers e s).0 (alike s t refl refl) (walks answers e (λ s t. is_unused s.phase ≡ false → Bounds s t.0) (bounds e) s u)

  -- an unused one has no queue
  pub record IsBounded (s : Slate) : Type 0 where
    pub within : length s.queue ≤ s.bound
    pub none : is_unused s.phase ≡ true → s.queue ≡ []

  unused_on : (e : Event) (k : EventKind) (s : Slate) → s.queue ≡ [] → (unused_rule e k s).0.queue ≡ []
  unused_on e (Datagram addr o) s n = (elim s.conf.over as (λ b. (let t : Effect = (if b then (s, []) else datagram e.client addr e.at e.secs o s) in t.0.queue ≡ [])) [ true ↦ n | false ↦ n ])
  unused_on e (Offer addr) s n = (elim s.conf.over as (λ b. (let t : Effect = (if b then (s, []) else (opened e.client addr e.at s, [])) in t.0.queue ≡ [])) [ true ↦ n | false ↦ n ])
  unused_on e _ s n = n

  empty_bounded : (s : Slate) → s.queue ≡ [] → IsBounded s
  empty_bounded s n = record { within = rw n (omega arith); none = λ u. n }

  bounded_case : (u : Bool) (e : Event) (s : Slate) → is_unused s.phase ≡ u → IsBounded s → IsBounded (rule answers e s).0
  bounded_case true e s u h =
      let t = with_conf (conf_rule e.kind s.conf) s in
      let at : rule answers e s ≡ unused_rule e e.kind t = ap (λ (p : Phase). in_phase answers e p t) (unused_is s.phase u) in
      empty_bounded (rule answers e s).0 (ap (λ (r : Effect). r.0.queue) at ∙ unused_on e e.kind t (h.none u))
  bounded_case false e s u h = record { within = (rule_bounds e s u).within h.within; none = λ z. let used = rule_used answers e s u in cc }

  bounded_after : (es : List Event) (s : Slate) → IsBounded s → IsBounded (slate_after answers s es)
  bounded_after [] s h = h
  bounded_after (e ∷ es) s h = bounded_after es (rule answers e s).0 (bounded_case (is_unused s.phase) e s refl h)

  -- and the bound stays from then on
  bound_after : (es : List Event) (s : Slate) → is_unused s.phase ≡ false → (slate_after answers s es).bound ≡ s.bound
  bound_after [] s u = refl
  bound_after (e ∷ es) s u = bound_after es (rule answers e s).0 (rule_used answers e s u) ∙ (rule_bounds e s u).bound

  -- whatever a client hears
  pub always_bounded : (settings : Settings) (es : List Event) → length (slate_after answers (fresh (opening settings)) es).queue ≤ (slate_after answers (fresh (opening settings)) es).bound
  always_bounded settings es = (bounded_after es (fresh (opening settings)) (empty_bounded (fresh (opening settings)) refl)).within

  pub bound_kept : (settings : Settings) (es fs : List Event) → is_unused (slate_after answers (fresh (opening settings)) es).phase ≡ false
      → (slate_after answers (fresh (opening settings)) (es ++ fs)).bound ≡ (slate_after answers (fresh (opening settings)) es).bound
  bound_kept settings es fs u =
      let f = fresh (opening settings) in
      ap (λ (s : Slate). s.bound) (slate_append answers es fs f) ∙ bound_after fs (slate_after answers f es) u

  pub bound_taken : (settings : Settings) (es : List Event) (e : Event) (addr : SocketAddr) → e.kind ≡ Offer addr → is_unused (slate_after answers (fresh (opening settings)) es).phase ≡ true → (slate_after answers (fresh (opening settings)) es).conf.over ≡ false
      → (slate_after answers (fresh (opening settings)) (es ++ e ∷ [])).bound ≡ (slate_after answers (fresh (opening settings)) es).conf.stream.connection_config.max_queued_responses
  bound_taken settings es e addr is u o =
      let f = fresh (opening settings) in
      let s = slate_after answers f es in
      ap (λ (s : Slate). s.bound) (slate_append answers es (e ∷ []) f) ∙ ap (λ (r : Effect). r.0.bound) (offered answers e s addr is (unused_is s.phase u) o)
