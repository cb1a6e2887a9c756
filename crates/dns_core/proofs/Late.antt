-- Once the server shut down no connection is open, and what comes late changes nothing; of some reconfigures the last counts.
use Rattle.dns_session.specs.Serving.{Serving}
use Rattle.std.proofs.Common.{◌≡◌, ◌≢◌, ℕ, List, [], ◌∷◌, ◌++◌, Bool, true, false, refl, ap, sym, ◌∙◌}
use Rattle.std.specs.Prelude.{All}
use Rattle.std.proofs.lemmas.List.Elements.{All-head, All-tail}
use Rattle.dns_name.specs.declared.address.SocketAddr.{SocketAddr}
use Rattle.dns_service.specs.Config.{Dgram, Stream}
use Rattle.dns_events.specs.declared.event.Event.{Event}
use Rattle.dns_events.specs.declared.event.EventKind.{EventKind}
use Rattle.dns_events.specs.declared.event.EventKind.TheVariants.{Datagram, Offer, Reconfigure, Shutdown}
use Rattle.dns_events.specs.declared.event.Output.{Output}
use Rattle.dns_events.specs.declared.event.Why.{Why}
use Rattle.dns_events.specs.declared.event.Why.TheVariants.{Shutdown as By_shutdown}
use Rattle.dns_session.specs.Slate.{Slate, Conf, Effect, Phase, Unused, Open, fresh, conf_rule, with_conf}
use Rattle.dns_session.specs.Connections.{wind_up, flushed}
use Rattle.dns_session.specs.Rule.{rule, in_phase}
use Rattle.dns_core.specs.Settings.{opening}
use Rattle.dns_core.specs.Own.{is_wide, own}
use Rattle.dns_core.specs.Runs.{IsReconfigure}
use Rattle.dns_core.specs.Sent.{slate_after, sent_after, sent, slate}
use Rattle.dns_core.specs.Trails.{is_open}
use Rattle.dns_events.specs.declared.settings.Settings.{Settings}
use Rattle.dns_core.proofs.Plain.{narrow, rule_conf}
use Rattle.dns_session.proofs.Walks.{Rows, rows}
use Rattle.dns_core.proofs.OutLemmas.{sent_after_append}

pub NotOver : Slate → Type 0
NotOver s = is_open s.phase ≡ true → s.conf.over ≡ false

-- of a slate that isn't open nothing follows
shut : (A : Type 0) (s : Slate) → is_open s.phase ≡ false → is_open s.phase ≡ true → A
shut A s h o = cc

pub wound_shut : (why : Why) (q : List (List ℕ)) (s : Slate) → is_open (wind_up why q s).0.phase ≡ false
wound_shut why [] s = refl
wound_shut why (m ∷ ms) s = refl

flushed_shut : (why : Why) (m : List ℕ) (ms : List (List ℕ)) (s : Slate) → is_open s.phase ≡ false → is_open (flushed why m ms s).0.phase ≡ false
flushed_shut why m [] s h = refl
flushed_shut why m (n ∷ ms) s h = h

-- after a Shutdown they stay
over_kept : (k : EventKind) (c : Conf) → c.over ≡ true → conf_rule k c ≡ c
over_kept (Reconfigure dgram stream) c h = rw h refl
over_kept Shutdown c h = ap (λ (b : Bool). record c { over = b }) (sym h)
over_kept _ c h = refl

-- and a Shutdown alone sets that it came
pub not_over_kept : (k : EventKind) (c : Conf) → k ≢ Shutdown → c.over ≡ false → (conf_rule k c).over ≡ false
not_over_kept (Reconfigure dgram stream) c n h = rw h refl
not_over_kept Shutdown c n h = absurd (n refl)
not_over_kept _ c n h = h

-- of two reconfigures the second counts
conf_twice : (d d' : Dgram) (t t' : Stream) (c : Conf) → conf_rule (Reconfigure d' t') (conf_rule (Reconfigure d t) c) ≡ conf_rule (Reconfigure d' t') c
conf_twice d d' t t' c = twice c.over refl where
  twice : (b : Bool) → c.over ≡ b → conf_rule (Reconfigure d' t') (conf_rule (Reconfigure d t) c) ≡ conf_rule (Reconfigure d' t') c
  twice true h = rw h refl
  twice false h = rw h refl

module _ (answers : Serving) where
  -- what is open after an event that isn't a Shutdown was open, or opened before a Shutdown
  opens : (e : Event) → Rows answers e (λ s t. (is_open s.phase ≡ true → s.conf.over ≡ false) → is_open t.0.phase ≡ true → s.conf.over ≡ false)
  opens e = record {
    stays = λ s h o. h o;
    exchanges = λ addr o s is p over h x. over;
    opens = λ addr s is p over h x. over;
    polls = λ k r s is p at d h o. h o;
    takes = λ o s is p h x. h (ap is_open p);
    turns = λ k r s is p at d h x. h (ap is_open p);
    writes = λ m ms s p is h x. h (ap is_open p);
    flushes = λ why m ms s p is h x. shut (s.conf.over ≡ false) (flushed why m ms s).0 (flushed_shut why m ms s (ap is_open p)) x;
    closes = λ why s c r h x. cc;
    winds = λ why m ms s p is h x. cc;
    reconfigures = λ dgram stream s is p h x. h (ap is_open p);
    releases = λ s is p h o. h o;
  }

  pub shutdown_shut : (p : Phase) (e : Event) (s : Slate) → e.kind ≡ Shutdown → s.phase ≡ p → is_open (in_phase answers e p s).0.phase ≡ false
  shutdown_shut Open e s is at = rw is (wound_shut By_shutdown s.queue s)
  shutdown_shut _ e s is at = rw is (ap is_open at)

  over_case : (e : Event) (k : EventKind) (s : Slate) → e.kind ≡ k → (is_open s.phase ≡ true → s.conf.over ≡ false) → is_open (rule answers e s).0.phase ≡ true → (conf_rule e.kind s.conf).over ≡ false
  over_case e Shutdown s is h o = shut ((conf_rule e.kind s.conf).over ≡ false) (rule answers e s).0 (shutdown_shut s.phase e (with_conf (conf_rule e.kind s.conf) s) is refl) o
  over_case e _ s is h o = rows answers e (λ s t. (is_open s.phase ≡ true → s.conf.over ≡ false) → is_open t.0.phase ≡ true → s.conf.over ≡ false) (opens e) s (λ x. not_over_kept e.kind s.conf (λ (y : e.kind ≡ Shutdown). cc) (h x)) o

  pub rule_over : (e : Event) (s : Slate) → NotOver s → NotOver (rule answers e s).0
  unfolding NotOver
  rule_over e s h is = ap (λ (c : Conf). c.over) (rule_conf answers e s) ∙ over_case e e.kind s refl h is

  pub over_after : (es : List Event) (s : Slate) → NotOver s → NotOver (slate_after answers s es)
  over_after [] s h = h
  over_after (x ∷ es) s h = over_after es (rule answers x s).0 (rule_over x s h)

  pub never_open : (k : Conf) → NotOver (fresh k)
  unfolding NotOver
  never_open k o = cc

  pub not_over : (settings : Settings) (c : ℕ) (q : List Event) → NotOver (slate answers settings c q)
  unfolding slate
  not_over settings c q = over_after (own c q) (fresh (opening settings)) (never_open (opening settings))

  shut_case : (s : Slate) → NotOver s → s.conf.over ≡ true → (b : Bool) → is_open s.phase ≡ b → is_open s.phase ≡ false
  unfolding NotOver
  shut_case s h over true is = let no = h is in cc
  shut_case s h over false is = is

  shut_by : (s : Slate) → NotOver s → s.conf.over ≡ true → is_open s.phase ≡ false
  shut_by s h over = shut_case s h over (is_open s.phase) refl

  -- what comes late
  datagram_phase : (p : Phase) (e : Event) (addr : SocketAddr) (o : List ℕ) (s : Slate) → e.kind ≡ Datagram addr o → s.conf.over ≡ true → in_phase answers e p s ≡ (s, [])
  datagram_phase Unused e addr o s is h = rw (is, h) refl
  datagram_phase _ e addr o s is h = rw is refl

  pub late_datagram : (e : Event) (addr : SocketAddr) (o : List ℕ) (s : Slate) → e.kind ≡ Datagram addr o → s.conf.over ≡ true → rule answers e s ≡ (s, [])
  late_datagram e addr o s is h = narrow answers e s (ap is_wide is) ∙ datagram_phase s.phase e addr o s is h

  offer_phase : (p : Phase) (e : Event) (addr : SocketAddr) (s : Slate) → e.kind ≡ Offer addr → s.conf.over ≡ true → in_phase answers e p s ≡ (s, [])
  offer_phase Unused e addr s is h = rw (is, h) refl
  offer_phase _ e addr s is h = rw is refl

  pub late_offer : (e : Event) (addr : SocketAddr) (s : Slate) → e.kind ≡ Offer addr → s.conf.over ≡ true → rule answers e s ≡ (s, [])
  late_offer e addr s is h = narrow answers e s (ap is_wide is) ∙ offer_phase s.phase e addr s is h

  -- one that all hear
  stays : (e : Event) (s : Slate) → s.conf.over ≡ true → rule answers e s ≡ in_phase answers e s.phase s
  stays e s h = ap (λ (c : Conf). in_phase answers e s.phase (with_conf c s)) (over_kept e.kind s.conf h)

  pub reconfigure_phase : (p : Phase) (e : Event) (dgram : Dgram) (stream : Stream) (s : Slate) → e.kind ≡ Reconfigure dgram stream → is_open p ≡ false → in_phase answers e p s ≡ (s, [])
  reconfigure_phase Open e dgram stream s is h = cc
  reconfigure_phase _ e dgram stream s is h = rw is refl

  pub late_reconfigure : (e : Event) (dgram : Dgram) (stream : Stream) (s : Slate) → e.kind ≡ Reconfigure dgram stream → NotOver s → s.conf.over ≡ true → rule answers e s ≡ (s, [])
  late_reconfigure e dgram stream s is n h = stays e s h ∙ reconfigure_phase s.phase e dgram stream s is (shut_by s n h)

  pub shutdown_phase : (p : Phase) (e : Event) (s : Slate) → e.kind ≡ Shutdown → is_open p ≡ false → in_phase answers e p s ≡ (s, [])
  shutdown_phase Open e s is h = cc
  shutdown_phase _ e s is h = rw is refl

  pub late_shutdown : (e : Event) (s : Slate) → e.kind ≡ Shutdown → NotOver s → s.conf.over ≡ true → rule answers e s ≡ (s, [])
  late_shutdown e s is n h = stays e s h ∙ shutdown_phase s.phase e s is (shut_by s n h)

  pub late_conf : (e : Event) (c : Conf) → c.over ≡ true → conf_rule e.kind c ≡ c
  late_conf e c h = over_kept e.kind c h

  -- a reconfigure before another is as none
  silent_phase : (p : Phase) (x : Event) (d : Dgram) (t : Stream) (s : Slate) → x.kind ≡ Reconfigure d t → (in_phase answers x p s).1 ≡ []
  silent_phase Unused x d t s is = rw is refl
  silent_phase _ x d t s is = rw is refl

  -- in each state both lead where the second leads
  twice_phase : (p : Phase) (x y : Event) (d d' : Dgram) (t t' : Stream) (s : Slate) → x.kind ≡ Reconfigure d t → y.kind ≡ Reconfigure d' t' → rule answers y (rule answers x (record s { phase = p })).0 ≡ rule answers y (record s { phase = p })
  twice_phase Unused x y d d' t t' s is is' = rw (is, is', conf_twice d d' t t' s.conf) refl
  twice_phase _ x y d d' t t' s is is' = rw (is, is', conf_twice d d' t t' s.conf) refl

  run_of : (run r : List Event) (last : Event) (s : Slate) → All IsReconfigure run → IsReconfigure last → sent_after answers s (run ++ last ∷ r) ≡ sent_after answers s (last ∷ r)
  run_of [] r last s all l = refl
  run_of (x ∷ run) r last s all l =
      let one = All-head IsReconfigure x run all in
      let rest = All-tail IsReconfigure x run all in
      let t = (rule answers x s).0 in
      let quiet : (rule answers x s).1 ≡ [] = silent_phase s.phase x one.0 one.1 (with_conf (conf_rule x.kind s.conf) s) one.2 in
      let same : rule answers last t ≡ rule answers last s = twice_phase s.phase x last one.0 l.0 one.1 l.1 s one.2 l.2 in
      ap (λ (os : List Output). os ++ sent_after answers t (run ++ last ∷ r)) quiet
      ∙ (run_of run r last t rest l
      ∙ ap (λ (u : Effect). u.1 ++ sent_after answers u.0 r) same)

  pub runs_count_as_their_last : (settings : Settings) (p run r : List Event) (last : Event) → All IsReconfigure run → IsReconfigure last → sent answers settings (p ++ (run ++ last ∷ r)) ≡ sent answers settings (p ++ last ∷ r)
  unfolding sent
  runs_count_as_their_last settings p run r last all l =
      let s = fresh (opening settings) in
      sent_after_append answers s p (run ++ last ∷ r)
      ∙ (ap (λ (os : List Output). sent_after answers s p ++ os) (run_of run r last (slate_after answers s p) all l)
      ∙ sym (sent_after_append answers s p (last ∷ r)))
