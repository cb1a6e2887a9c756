-- A slate has the configurations in force, an unused one has nothing else, a number that was used stays used, and a slot is held
-- until a Release finds the connection closed. By state: an event that all hear sets the configurations first.
use Rattle.dns_session.specs.Serving.{Serving}
use Rattle.std.proofs.Common.{◌≡◌, ◌≢◌, ℕ, List, [], ◌∷◌, Bool, true, false, cond, refl, ap, sym, ◌∙◌, subst}
use Rattle.std.specs.Prelude.{Option, Some, None, slice_get, nat_eq, if◌then◌else◌, ◌||◌}
use Rattle.dns_name.specs.declared.address.SocketAddr.{SocketAddr}
use Rattle.dns_events.specs.declared.event.Event.{Event}
use Rattle.dns_events.specs.declared.event.EventKind.{EventKind}
use Rattle.dns_events.specs.declared.event.EventKind.TheVariants.{Datagram, Turn, Offer, Release, Reconfigure, Shutdown}
use Rattle.dns_events.specs.declared.event.Why.{Why}
use Rattle.dns_session.specs.Slate.{Slate, SlateRequest, Conf, Effect, Phase, Unused, Exchange, Open, Flushing, Closed, fresh, conf_rule, with_conf}
use Rattle.dns_session.specs.Datagrams.{datagram}
use Rattle.dns_session.specs.Connections.{opened, close, written, flushed}
use Rattle.dns_session.specs.Turns.{exchange_turn, turn}
use Rattle.dns_session.specs.Rule.{rule, in_phase, unused_rule, closed_rule}
use Rattle.dns_core.specs.Finished.{IsFinished}
use Rattle.dns_core.specs.Settings.{opening}
use Rattle.dns_core.specs.Own.{is_wide, own, concerns}
use Rattle.dns_core.specs.Sent.{conf, conf_after, slate_after, slate}
use Rattle.dns_core.specs.Out.{is_unused, is_connection, holds_slot}
use Rattle.dns_events.specs.declared.settings.Settings.{Settings}
use Rattle.dns_session.proofs.Walks.{Walks, walks, may_close}

-- begun, and not closed
abbrev pub is_going : Phase → Bool
is_going Unused = false
is_going Closed = false
is_going _ = true

-- what goes on keeps its configurations, a used number stays used, and a slot stays held
pub record GoesOn (s t : Slate) : Type 0 where
  pub conf : t.conf ≡ s.conf
  pub used : is_unused s.phase ≡ false → is_unused t.phase ≡ false
  pub slot : is_going s.phase ≡ true → holds_slot t ≡ holds_slot s

-- if nothing of it changes
same : (s t : Slate) → t.conf ≡ s.conf → t.phase ≡ s.phase → t.freed ≡ s.freed → GoesOn s t
same s t c p f = record { conf = c; used = λ h. ap is_unused p ∙ h; slot = λ g. rw (p, f) refl }

then_on : (s t u : Slate) → t.phase ≡ s.phase → GoesOn s t → GoesOn t u → GoesOn s u
then_on s t u p g h = record { conf = h.conf ∙ g.conf; used = λ x. h.used (g.used x); slot = λ x. h.slot (ap is_going p ∙ x) ∙ g.slot x }

-- one that may be closed is a connection
holds : (p : Phase) → may_close p ≡ true → is_connection p ≡ true
holds Open h = refl
holds (Flushing why) h = refl
holds _ h = cc

pub unused_is : (p : Phase) → is_unused p ≡ true → p ≡ Unused
unused_is Unused h = refl
unused_is _ h = cc

close_on : (why : Why) (s : Slate) → is_connection s.phase ≡ true → GoesOn s (close why s).0
close_on why s h = record { conf = refl; used = λ _. refl; slot = λ g. rw h refl }

written_on : (at : ℕ) (m : List ℕ) (ms : List (List ℕ)) (s : Slate) → GoesOn s (written at m ms s).0
written_on at m [] s = same s (written at m [] s).0 refl refl refl
written_on at m (n ∷ ms) s = same s (written at m (n ∷ ms) s).0 refl refl refl

flushed_on : (why : Why) (m : List ℕ) (ms : List (List ℕ)) (s : Slate) → is_connection s.phase ≡ true → GoesOn s (flushed why m ms s).0
flushed_on why m [] s h = close_on why s h
flushed_on why m (n ∷ ms) s h = same s (flushed why m (n ∷ ms) s).0 refl refl refl

-- an event that its client alone hears leaves the configurations
pub narrow_conf : (k : EventKind) (c : Conf) → is_wide k ≡ false → conf_rule k c ≡ c
narrow_conf (Reconfigure dgram stream) c n = cc
narrow_conf Shutdown c n = cc
narrow_conf _ c n = refl

module _ (answers : Serving) where
  -- a closed connection hears a Release alone
  closed_still : (k : EventKind) (s : Slate) → k ≢ Release → closed_rule k s ≡ (s, [])
  closed_still Release s n = absurd (n refl)
  closed_still _ s n = refl

  goes_on : (e : Event) → Walks answers e (λ s t. GoesOn s t.0)
  goes_on e = record {
    stays = λ s. same s s refl refl refl;
    goes = λ s t effect p g h. then_on s t effect.0 p g h;
    exchanges = λ addr o s is p over. record { conf = refl; used = λ _. refl; slot = λ g. let x = ap is_going p in cc };
    opens = λ addr s is p over. record { conf = refl; used = λ _. refl; slot = λ g. let x = ap is_going p in cc };
    polls = λ k r s is p at d. record { conf = refl; used = λ h. h; slot = λ g. refl };
    receives = λ o s p. record { conf = refl; used = λ h. h; slot = λ g. refl };
    counts = λ s p. record { conf = refl; used = λ h. h; slot = λ g. refl };
    asks = λ f s p. record { conf = refl; used = λ h. h; slot = λ g. refl };
    retimes = λ a s p. record { conf = refl; used = λ h. h; slot = λ g. refl };
    sets = λ k r s p. record { conf = refl; used = λ h. h; slot = λ g. refl };
    queues = λ m s p free. record { conf = refl; used = λ h. h; slot = λ g. refl };
    writes = λ m ms s p is. written_on e.at m ms s;
    flushes = λ why m ms s p is. flushed_on why m ms s (ap is_connection p);
    closes = λ why s c. close_on why s (holds s.phase c);
    winds = λ why m ms s p is. record { conf = refl; used = λ _. refl; slot = λ g. rw p refl };
    reconfigures = λ dgram stream s is p. record { conf = refl; used = λ h. h; slot = λ g. refl };
    releases = λ s is p. record { conf = refl; used = λ h. h; slot = λ g. let x = ap is_going p in cc };
  }

  rule_use : (e : Event) (s : Slate) → GoesOn (with_conf (conf_rule e.kind s.conf) s) (rule answers e s).0
  rule_use e s = walks answers e (λ s t. GoesOn s t.0) (goes_on e) s

  pub rule_conf : (e : Event) (s : Slate) → (rule answers e s).0.conf ≡ conf_rule e.kind s.conf
  rule_conf e s = (rule_use e s).conf

  pub rule_used : (e : Event) (s : Slate) → is_unused s.phase ≡ false → is_unused (rule answers e s).0.phase ≡ false
  rule_used e s u = (rule_use e s).used u

  -- a slot is held while its connection isn't closed
  pub slot_kept : (e : Event) (s : Slate) → is_going s.phase ≡ true → holds_slot (rule answers e s).0 ≡ holds_slot s
  slot_kept e s g = (rule_use e s).slot g

  -- and until a Release comes
  pub slot_stays : (e : Event) (s : Slate) → s.phase ≡ Closed → e.kind ≢ Release → holds_slot (rule answers e s).0 ≡ holds_slot s
  slot_stays e s p n =
      let t = with_conf (conf_rule e.kind s.conf) s in
      let stays : in_phase answers e Closed t ≡ (t, []) = closed_still e.kind t n in
      ap (λ (q : Phase). holds_slot (in_phase answers e q t).0) p ∙ ap (λ (u : Effect). holds_slot u.0) stays

  -- an event that its client alone hears
  pub narrow : (e : Event) (s : Slate) → is_wide e.kind ≡ false → rule answers e s ≡ in_phase answers e s.phase s
  narrow e s n = ap (λ (c : Conf). in_phase answers e s.phase (with_conf c s)) (narrow_conf e.kind s.conf n)

  -- a client begins once
  late_datagram : (p : Phase) (e : Event) (k : EventKind) (addr : SocketAddr) (o : List ℕ) (s : Slate) → k ≡ Datagram addr o → e.kind ≡ k → is_unused p ≡ false → in_phase answers e p s ≡ (s, [])
  late_datagram Unused e k addr o s is same_kind u = cc
  late_datagram _ e k addr o s is same_kind u = rw (same_kind, is) refl

  late_offer : (p : Phase) (e : Event) (k : EventKind) (addr : SocketAddr) (s : Slate) → k ≡ Offer addr → e.kind ≡ k → is_unused p ≡ false → in_phase answers e p s ≡ (s, [])
  late_offer Unused e k addr s is same_kind u = cc
  late_offer _ e k addr s is same_kind u = rw (same_kind, is) refl

  pub used_datagram : (e : Event) (addr : SocketAddr) (o : List ℕ) (s : Slate) → e.kind ≡ Datagram addr o → is_unused s.phase ≡ false → rule answers e s ≡ (s, [])
  used_datagram e addr o s is u = narrow e s (ap is_wide is) ∙ late_datagram s.phase e (Datagram addr o) addr o s refl is u

  pub used_offer : (e : Event) (addr : SocketAddr) (s : Slate) → e.kind ≡ Offer addr → is_unused s.phase ≡ false → rule answers e s ≡ (s, [])
  used_offer e addr s is u = narrow e s (ap is_wide is) ∙ late_offer s.phase e (Offer addr) addr s refl is u

  -- a request that is done, or none
  pub exchange_done : (k : ℕ) (x : Option SlateRequest) (s : Slate) → IsFinished x → exchange_turn answers k x s ≡ (s, [])
  exchange_done k None s h = refl
  exchange_done k (Some r) s h = rw h refl

  turn_done : (at k : ℕ) (x : Option SlateRequest) (s : Slate) → IsFinished x → turn answers at k x s ≡ s
  turn_done at k None s h = refl
  turn_done at k (Some r) s h = rw h refl

  done_phase : (p : Phase) (e : Event) (s : Slate) (k : ℕ) → e.kind ≡ Turn k → IsFinished (slice_get s.requests k) → in_phase answers e p s ≡ (s, [])
  done_phase Exchange e s k is h = rw (is, exchange_done k (slice_get s.requests k) s h) refl
  done_phase Open e s k is h = rw (is, turn_done e.at k (slice_get s.requests k) s h) refl
  done_phase _ e s k is h = rw is refl

  pub done_idle : (e : Event) (s : Slate) (k : ℕ) → e.kind ≡ Turn k → IsFinished (slice_get s.requests k) → rule answers e s ≡ (s, [])
  done_idle e s k is h = narrow e s (ap is_wide is) ∙ done_phase s.phase e s k is h

  pub closed_idle : (e : Event) (s : Slate) → is_wide e.kind ≡ false → e.kind ≢ Release → s.phase ≡ Closed → rule answers e s ≡ (s, [])
  closed_idle e s w n p =
      let stays : in_phase answers e Closed s ≡ (s, []) = closed_still e.kind s n in
      narrow e s w ∙ (ap (λ (q : Phase). in_phase answers e q s) p ∙ stays)

  -- the first datagram makes an exchange, before a Shutdown
  pub begun : (e : Event) (s : Slate) (addr : SocketAddr) (o : List ℕ) → e.kind ≡ Datagram addr o → s.phase ≡ Unused → s.conf.over ≡ false → rule answers e s ≡ datagram e.client addr e.at e.secs o s
  begun e s addr o is p not_over = narrow e s (ap is_wide is) ∙ rw (p, is, not_over) refl

  -- the first offer makes a connection, before a Shutdown
  pub offered : (e : Event) (s : Slate) (addr : SocketAddr) → e.kind ≡ Offer addr → s.phase ≡ Unused → s.conf.over ≡ false → rule answers e s ≡ (opened e.client addr e.at s, [])
  offered e s addr is p not_over = narrow e s (ap is_wide is) ∙ rw (p, is, not_over) refl

  -- at an unused slate an event begins a client, or says nothing and leaves all but the configurations
  still_kind : (e : Event) (k : EventKind) (s : Slate) → is_unused (unused_rule e k s).0.phase ≡ true → unused_rule e k s ≡ (s, [])
  still_kind e (Datagram addr o) s h = (elim s.conf.over as (λ b. let t : Effect = (if b then (s, []) else datagram e.client addr e.at e.secs o s) in is_unused t.0.phase ≡ true → t ≡ (s, [])) [ true ↦ λ _. refl | false ↦ λ h. cc ]) h
  still_kind e (Offer addr) s h = (elim s.conf.over as (λ b. let t : Effect = (if b then (s, []) else (opened e.client addr e.at s, [])) in is_unused t.0.phase ≡ true → t ≡ (s, [])) [ true ↦ λ _. refl | false ↦ λ h. cc ]) h
  still_kind e _ s h = refl

  pub still_unused : (e : Event) (s : Slate) → s.phase ≡ Unused → is_unused (rule answers e s).0.phase ≡ true → rule answers e s ≡ (with_conf (conf_rule e.kind s.conf) s, [])
  still_unused e s p h =
      let t = with_conf (conf_rule e.kind s.conf) s in
      let at_unused : rule answers e s ≡ unused_rule e e.kind t = ap (λ (q : Phase). in_phase answers e q t) p in
      at_unused ∙ still_kind e e.kind t (sym (ap (λ (u : Effect). is_unused u.0.phase) at_unused) ∙ h)

  -- what a slate is by the configurations in force
  pub record Plain (k : Conf) (s : Slate) : Type 0 where
    pub conf : s.conf ≡ k
    pub unused : is_unused s.phase ≡ true → s ≡ fresh k

  plain_case : (e : Event) (k : Conf) (s : Slate) → Plain k s → (b : Bool) → is_unused s.phase ≡ b → is_unused (rule answers e s).0.phase ≡ true → (rule answers e s).0 ≡ fresh (conf_rule e.kind k)
  plain_case e k s p true is h =
      let left = still_unused e s (unused_is s.phase is) h in
      ap (λ (t : Effect). t.0) left ∙ ap (λ (u : Slate). with_conf (conf_rule e.kind u.conf) u) (p.unused is)
  plain_case e k s p false is h =
      let g = rule_used e s is in cc

  pub plain_rule : (e : Event) (k : Conf) (s : Slate) → Plain k s → Plain (conf_rule e.kind k) (rule answers e s).0
  plain_rule e k s p = record {
    conf = rule_conf e s ∙ ap (conf_rule e.kind) p.conf;
    unused = plain_case e k s p (is_unused s.phase) refl;
  }

  -- an event that a client doesn't hear leaves the configurations
  unheard : (c : ℕ) (e : Event) (k : Conf) → concerns c e ≡ false → conf_rule e.kind k ≡ k
  unheard c e k h = narrow_conf e.kind k (narrow_of (is_wide e.kind) h) where
    narrow_of : (w : Bool) → (w || nat_eq e.client c) ≡ false → w ≡ false
    narrow_of true h = cc
    narrow_of false h = refl

  plain_step : (c : ℕ) (x : Event) (q : List Event) (k : Conf) (s : Slate) → Plain k s → (b : Bool) → concerns c x ≡ b
      → ((k' : Conf) (t : Slate) → Plain k' t → Plain (conf_after k' q) (slate_after answers t (own c q)))
      → Plain (conf_after (conf_rule x.kind k) q) (slate_after answers s (cond b (x ∷ own c q) (own c q)))
  plain_step c x q k s p true h ih = ih (conf_rule x.kind k) (rule answers x s).0 (plain_rule x k s p)
  plain_step c x q k s p false h ih =
      let e = unheard c x k h in
      subst (λ (k' : Conf). Plain (conf_after k' q) (slate_after answers s (own c q))) (sym e) (ih k s p)

  plain_after : (c : ℕ) (q : List Event) (k : Conf) (s : Slate) → Plain k s → Plain (conf_after k q) (slate_after answers s (own c q))
  plain_after c [] k s p = p
  plain_after c (x ∷ q) k s p = plain_step c x q k s p (concerns c x) refl (plain_after c q)

  pub plain : (settings : Settings) (c : ℕ) (q : List Event) → Plain (conf settings q) (slate answers settings c q)
  unfolding slate conf
  plain settings c q = plain_after c q (opening settings) (fresh (opening settings)) (record { conf = refl; unused = λ h. refl })
