-- Whom the outputs of a client's rule are for, and what a client that didn't begin is sent.
use Rattle.dns_session.specs.Serving.{Serving}
use Rattle.std.proofs.Common.{◌≡◌, ◌≢◌, ℕ, List, [], ◌∷◌, ◌++◌, length, Bool, true, false, cond, refl, ap, sym, ◌∙◌, subst}
use Rattle.std.specs.Prelude.{Option, Some, None, nat_lt, filter, if◌then◌else◌}
use Rattle.std.proofs.lemmas.Bool.{eq-eqb, eqb-true, ne_eqb}
use Rattle.dns_name.specs.declared.address.SocketAddr.{SocketAddr}
use Rattle.dns_base.specs.Header.{header_of}
use Rattle.dns_base.specs.Msg.{Msg}
use Rattle.dns_service.specs.Config.{Dgram}
use Rattle.dns_events.specs.declared.event.Event.{Event}
use Rattle.dns_events.specs.declared.event.EventKind.{EventKind}
use Rattle.dns_events.specs.declared.event.EventKind.TheVariants.{Datagram, Offer, Reconfigure, Shutdown}
use Rattle.dns_events.specs.declared.event.Output.{Output}
use Rattle.dns_events.specs.declared.event.Why.{Why}
use Rattle.dns_session.specs.Slate.{Slate, Effect, Phase, Unused, fresh, conf_rule, with_conf}
use Rattle.dns_session.specs.Requests.{header_size}
use Rattle.dns_session.specs.Datagrams.{cut_datagram, refused_datagram, datagram}
use Rattle.dns_session.specs.Connections.{opened, written, flushed}
use Rattle.dns_session.specs.Turns.{sent_at_once, sent_for}
use Rattle.dns_session.specs.Rule.{rule, in_phase, unused_rule}
use Rattle.dns_core.specs.Settings.{opening}
use Rattle.dns_core.specs.Own.{is_wide, concerns, own}
use Rattle.dns_core.specs.Sent.{slate_after, sent_after, sent, slate}
use Rattle.dns_core.specs.Out.{is_unused}
use Rattle.dns_core.specs.ByClient.{client_of, is_for}
use Rattle.dns_events.specs.declared.settings.Settings.{Settings}
use Rattle.dns_core.proofs.Plain.{unused_is, rule_used, still_unused}
use Rattle.dns_session.proofs.Walks.{Walks, walks}

-- each output is for the client
abbrev pub AreFor : ℕ → List Output → Type 0
AreFor c [] = Unit {0}
AreFor c (o ∷ os) = (client_of o ≡ c) × AreFor c os

pub for_both : (c : ℕ) (os ps : List Output) → AreFor c os → AreFor c ps → AreFor c (os ++ ps)
for_both c [] ps h k = k
for_both c (o ∷ os) ps h k = (h.0, for_both c os ps h.1 k)

pub filter_for : (c : ℕ) (os : List Output) → AreFor c os → filter (is_for c) os ≡ os
filter_for c [] h = refl
filter_for c (o ∷ os) h = rw (eq-eqb (client_of o) c h.0, filter_for c os h.1) refl

pub filter_others : (c d : ℕ) (os : List Output) → AreFor d os → c ≢ d → filter (is_for c) os ≡ []
filter_others c d [] h apart = refl
filter_others c d (o ∷ os) h apart =
    rw (ne_eqb (client_of o) c (λ (e : client_of o ≡ c). apart (sym e ∙ h.0)), filter_others c d os h.1 apart) refl

-- the number stays, and what is told is for it
record Names (s : Slate) (t : Effect) : Type 0 where
  client : t.0.client ≡ s.client
  effect : AreFor s.client t.1

silent : (s t : Slate) → t.client ≡ s.client → Names s (t, [])
silent s t h = record { client = h; effect = tt }

names_on : (s t : Slate) (effect : Effect) → Names s (t, []) → Names t effect → Names s effect
names_on s t effect g n = record { client = n.client ∙ g.client; effect = subst (λ (x : ℕ). AreFor x effect.1) g.client n.effect }

written_names : (at : ℕ) (m : List ℕ) (ms : List (List ℕ)) (s : Slate) → Names s (written at m ms s)
written_names at m [] s = record { client = refl; effect = (refl, tt) }
written_names at m (n ∷ ms) s = record { client = refl; effect = (refl, tt) }

flushed_names : (why : Why) (m : List ℕ) (ms : List (List ℕ)) (s : Slate) → Names s (flushed why m ms s)
flushed_names why m [] s = record { client = refl; effect = (refl, (refl, tt)) }
flushed_names why m (n ∷ ms) s = record { client = refl; effect = (refl, tt) }

at_once_for : (client : ℕ) (x : Option Msg) → AreFor client (sent_at_once client x)
at_once_for client None = tt
at_once_for client (Some m) = (refl, tt)

at_once_case : (client : ℕ) (dgram : Dgram) (o : List ℕ) (short qr : Bool) → AreFor client (if short then [] else (if qr then refused_datagram client dgram o else []))
at_once_case client dgram o true qr = tt
at_once_case client dgram o false true = (refl, tt)
at_once_case client dgram o false false = tt

datagram_for : (client : ℕ) (addr : SocketAddr) (at secs : ℕ) (o : List ℕ) (s : Slate) → AreFor client (datagram client addr at secs o s).1
datagram_for client addr at secs o s = at_once_case client s.conf.dgram (cut_datagram o) (nat_lt (length (cut_datagram o)) header_size) (header_of (cut_datagram o)).qr

-- a slate that is used has its client's number
abbrev pub IsOf : ℕ → Slate → Type 0
IsOf c s = is_unused s.phase ≡ false → s.client ≡ c

-- at the event by which a client begins, all is for the number of the event
record Begins (e : Event) (s : Slate) (t : Effect) : Type 0 where
  of : IsOf e.client s → IsOf e.client t.0
  effect : AreFor e.client t.1

begins_not : (e : Event) (s : Slate) → Begins e s (s, [])
begins_not e s = record { of = λ h. h; effect = tt }

unused_begins : (e : Event) (k : EventKind) (s : Slate) → Begins e s (unused_rule e k s)
unused_begins e (Datagram addr o) s = (elim s.conf.over as (λ b. Begins e s (if b then (s, []) else datagram e.client addr e.at e.secs o s)) [ true ↦ begins_not e s | false ↦ record { of = λ h u. refl; effect = datagram_for e.client addr e.at e.secs o s } ])
unused_begins e (Offer addr) s = (elim s.conf.over as (λ b. Begins e s (if b then (s, []) else (opened e.client addr e.at s, []))) [ true ↦ begins_not e s | false ↦ record { of = λ h u. refl; effect = tt } ])
unused_begins e _ s = begins_not e s

module _ (answers : Serving) where
  names : (e : Event) → Walks answers e (λ s t. is_unused s.phase ≡ false → Names s t)
  names e = record {
    stays = λ s u. silent s s refl;
    goes = λ s t effect p g h u. names_on s t effect (g u) (h (ap is_unused p ∙ u));
    exchanges = λ addr o s is p over u. let x = ap is_unused p in cc;
    opens = λ addr s is p over u. let x = ap is_unused p in cc;
    polls = λ k r s is p at d u. record { client = refl; effect = at_once_for s.client (sent_for answers r.request (answers.answer r.request r.polls)) };
    receives = λ o s p u. record { client = refl; effect = tt };
    counts = λ s p u. record { client = refl; effect = tt };
    asks = λ f s p u. record { client = refl; effect = tt };
    retimes = λ a s p u. record { client = refl; effect = tt };
    sets = λ k r s p u. record { client = refl; effect = tt };
    queues = λ m s p free u. record { client = refl; effect = tt };
    writes = λ m ms s p is u. written_names e.at m ms s;
    flushes = λ why m ms s p is u. flushed_names why m ms s;
    closes = λ why s c u. record { client = refl; effect = (refl, tt) };
    winds = λ why m ms s p is u. record { client = refl; effect = tt };
    reconfigures = λ dgram stream s is p u. record { client = refl; effect = tt };
    releases = λ s is p u. record { client = refl; effect = tt };
  }

  used_names : (e : Event) (s : Slate) → is_unused s.phase ≡ false → Names s (rule answers e s)
  used_names e s u = let n = walks answers e (λ s t. is_unused s.phase ≡ false → Names s t) (names e) s u in record { client = n.client; effect = n.effect }

  -- what a client that began is sent is for the number in its slate, which stays
  pub rule_for : (e : Event) (s : Slate) → is_unused s.phase ≡ false → AreFor s.client (rule answers e s).1
  rule_for e s u = (used_names e s u).effect

  pub rule_client : (e : Event) (s : Slate) → is_unused s.phase ≡ false → (rule answers e s).0.client ≡ s.client
  rule_client e s u = (used_names e s u).client

  unused_for : (e : Event) (s : Slate) → s.phase ≡ Unused → Begins e (with_conf (conf_rule e.kind s.conf) s) (rule answers e s)
  unused_for e s p =
      let t = with_conf (conf_rule e.kind s.conf) s in
      subst (λ (q : Phase). Begins e t (in_phase answers e q t)) (sym p) (unused_begins e e.kind t)

  -- and at the event by which it begins, for the number of the event
  pub first_for : (e : Event) (s : Slate) → s.phase ≡ Unused → AreFor e.client (rule answers e s).1
  first_for e s p = (unused_for e s p).effect

  -- nothing is sent before the event by which a client begins
  pub quiet : (e : Event) (s : Slate) → s.phase ≡ Unused → is_unused (rule answers e s).0.phase ≡ true → (rule answers e s).1 ≡ []
  quiet e s p u = ap (λ (t : Effect). t.1) (still_unused answers e s p u)

  -- an event that all hear begins nobody
  wide_kind : (e : Event) (k : EventKind) (s : Slate) → is_wide k ≡ true → unused_rule e k s ≡ (s, [])
  wide_kind e (Reconfigure dgram stream) s w = refl
  wide_kind e Shutdown s w = refl
  wide_kind e _ s w = cc

  pub wide_begins_nobody : (e : Event) (s : Slate) → is_wide e.kind ≡ true → is_unused s.phase ≡ true → is_unused (rule answers e s).0.phase ≡ true
  wide_begins_nobody e s w u =
      let t = with_conf (conf_rule e.kind s.conf) s in
      let is = ap (λ (p : Phase). in_phase answers e p t) (unused_is s.phase u) ∙ wide_kind e e.kind t w in
      ap (λ (x : Effect). is_unused x.0.phase) is ∙ u

  -- the slate of a client that hears an event
  of_used : (c : ℕ) (e : Event) (s : Slate) → IsOf c s → is_unused s.phase ≡ false → IsOf c (rule answers e s).0
  of_used c e s h u = λ v. rule_client e s u ∙ h u

  of_unused : (c : ℕ) (e : Event) (s : Slate) → concerns c e ≡ true → is_unused s.phase ≡ true → (w : Bool) → is_wide e.kind ≡ w → IsOf c (rule answers e s).0
  of_unused c e s hears u true w = λ v. let still = wide_begins_nobody e s w u in cc
  of_unused c e s hears u false w =
      let same : e.client ≡ c = eqb-true e.client c (rw w at hears) in
      let nobody : IsOf e.client (with_conf (conf_rule e.kind s.conf) s) = λ v. cc in
      subst (λ (d : ℕ). IsOf d (rule answers e s).0) same ((unused_for e s (unused_is s.phase u)).of nobody)

  pub of_step : (c : ℕ) (e : Event) (s : Slate) → concerns c e ≡ true → IsOf c s → (u : Bool) → is_unused s.phase ≡ u → IsOf c (rule answers e s).0
  of_step c e s hears h true u = of_unused c e s hears u (is_wide e.kind) refl
  of_step c e s hears h false u = of_used c e s h u

  of_client_case : (c : ℕ) (x : Event) (q : List Event) (s : Slate) → ((t : Slate) → IsOf c t → IsOf c (slate_after answers t (own c q))) → IsOf c s → (b : Bool) → concerns c x ≡ b → IsOf c (slate_after answers s (cond b (x ∷ own c q) (own c q)))
  of_client_case c x q s more h true is = more (rule answers x s).0 (of_step c x s is h (is_unused s.phase) refl)
  of_client_case c x q s more h false is = more s h

  of_client_after : (c : ℕ) (q : List Event) (s : Slate) → IsOf c s → IsOf c (slate_after answers s (own c q))
  of_client_after c [] s h = h
  of_client_after c (x ∷ q) s h = of_client_case c x q s (of_client_after c q) h (concerns c x) refl

  pub of_client : (settings : Settings) (c : ℕ) (q : List Event) → IsOf c (slate answers settings c q)
  unfolding slate
  of_client settings c q = of_client_after c q (fresh (opening settings)) (λ u. cc)

  pub still_used : (es : List Event) (s : Slate) → is_unused s.phase ≡ false → is_unused (slate_after answers s es).phase ≡ false
  still_used [] s u = u
  still_used (x ∷ es) s u = still_used es (rule answers x s).0 (rule_used answers x s u)

  silent_case : (x : Event) (es : List Event) (s : Slate) → ((t : Slate) → is_unused t.phase ≡ true → is_unused (slate_after answers t es).phase ≡ true → sent_after answers t es ≡ []) → is_unused s.phase ≡ true → is_unused (slate_after answers (rule answers x s).0 es).phase ≡ true → (b : Bool) → is_unused (rule answers x s).0.phase ≡ b → (rule answers x s).1 ++ sent_after answers (rule answers x s).0 es ≡ []
  silent_case x es s more u v true is = rw (quiet x s (unused_is s.phase u) is, more (rule answers x s).0 is v) refl
  silent_case x es s more u v false is = let used = still_used es (rule answers x s).0 is in cc

  pub silent_after : (es : List Event) (s : Slate) → is_unused s.phase ≡ true → is_unused (slate_after answers s es).phase ≡ true → sent_after answers s es ≡ []
  silent_after [] s u v = refl
  silent_after (x ∷ es) s u v = silent_case x es s (silent_after es) u v (is_unused (rule answers x s).0.phase) refl

  -- nothing was sent to a client that didn't begin
  pub sent_nothing : (settings : Settings) (c : ℕ) (q : List Event) → is_unused (slate answers settings c q).phase ≡ true → sent answers settings (own c q) ≡ []
  unfolding slate sent
  sent_nothing settings c q u = silent_after (own c q) (fresh (opening settings)) refl u
