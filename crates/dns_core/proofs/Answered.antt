-- What clients are sent answers what they asked.
use Rattle.std.proofs.Common.{◌≡◌, ℕ, ◌≤◌, ◌⊎◌, inl, inr, Bool, true, false, List, [], ◌∷◌, ◌++◌, length, drop, take, Option, refl, ap, sym, ◌∙◌, subst, append_assoc}
use Rattle.std.specs.Prelude.{IfSome, if◌then◌else◌, filter, not, ◌&&◌, slice_get, cond}
use Rattle.std.specs.List.{All, Contains, flat_map, list_any}
use Rattle.std.proofs.Math.Seq.{take-append_seam}
use Rattle.std.proofs.lemmas.Bool.{eqb-true}
use Rattle.std.proofs.lemmas.List.{append-nil}
use Rattle.std.proofs.lemmas.List.Elements.{All-nil, All-cons, All-head, All-tail, All-append, All-weaker, All-drop, All-contains_itself}
use Rattle.dns_name.specs.declared.address.SocketAddr.{SocketAddr}
use Rattle.dns_base.specs.Msg.{Msg}
use Rattle.dns_base.specs.Wire.{wire}
use Rattle.dns_service.specs.Cut.{cut}
use Rattle.dns_service.specs.Req.{Req}
use Rattle.dns_service.specs.Transport.{limit}
use Rattle.dns_events.specs.declared.event.Event.{Event}
use Rattle.dns_events.specs.declared.event.EventKind.{EventKind}
use Rattle.dns_events.specs.declared.event.EventKind.TheVariants.{Datagram as Is_datagram, Turn, Offer, Piece, End, Fault, Close, Write, Tick, Release, Reconfigure, Shutdown}
use Rattle.dns_events.specs.declared.event.Output.{Output}
use Rattle.dns_events.specs.declared.event.Output.TheVariants.{Frame, Closed as Closed_output, TurnedAway}
use Rattle.dns_events.specs.declared.event.Why.{Why}
use Rattle.dns_events.specs.declared.event.Why.TheVariants.{Ended, Short, Idle, WriteTimeout, Commanded, Fault as By_fault, Shutdown as By_shutdown}
use Rattle.dns_service.specs.declared.message.TransportSpecificContext.TheVariants.{Udp}
use Rattle.dns_session.specs.Connections.{close, flush, flushed, in_transaction, opened, piece, reconfigured, released, tick, took_too_long, wind_up, write, written}
use Rattle.dns_session.specs.Datagrams.{cut_datagram, datagram, exchange}
use Rattle.dns_session.specs.Frames.{frames}
use Rattle.dns_session.specs.Rule.{closed_rule, exchange_rule, flushing_rule, in_phase, open_rule, rule, unused_rule}
use Rattle.dns_session.specs.Serving.{Serving}
use Rattle.dns_session.specs.Slate.{Slate, Conf, Effect, Phase, Unused, Exchange, Open, Flushing, Closed, conf_rule, fresh, with_conf}
use Rattle.dns_session.specs.Timers.{is_expired}
use Rattle.dns_session.specs.Turns.{exchange_turn, limit_for, reply_to, sent_for, turn}
use Rattle.dns_core.specs.Out.{gain, gained, heard, is_new, is_turned_away, is_unused, members, out, out_after, turned_away}
use Rattle.dns_core.specs.Own.{concerns, is_wide}
use Rattle.dns_core.specs.ReplyTo.{Responds, AnswersFrame, IsReply}
use Rattle.dns_core.specs.Sent.{conf, slate}
use Rattle.dns_events.specs.declared.settings.Settings.{Settings}
use Rattle.dns_core.proofs.Exchanged.{Exchanges, exchange_polls, first_exchanges, first_sent, later_exchanges}
use Rattle.dns_core.proofs.Gained.{concerns_own}
use Rattle.dns_core.proofs.Listening.{Asks, Listens, RepliesTo, Takes, listens_weaker, queue_weaker, take_listens, turn_listens}
use Rattle.dns_core.proofs.Named.{of_client}
use Rattle.dns_core.proofs.OutLemmas.{slate_none, slate_some}
use Rattle.dns_core.proofs.Plain.{plain}

module _ (answers : Serving) (settings : Settings) (c : ℕ) where
  -- octets are one of the frames that the connection had received after some of its events
  pub record AskedBefore (q : List Event) (o : List ℕ) : Type 0 where
    pub before : List Event
    pub behind : List Event
    pub place : q ≡ before ++ behind
    pub asked : Contains (frames (slate answers settings c before).received) o

  pub later_asked : (q : List Event) (e : Event) (o : List ℕ) → AskedBefore q o → AskedBefore (q ++ e ∷ []) o
  later_asked q e o h = record {
    before = h.before;
    behind = h.behind ++ e ∷ [];
    place = ap (λ (es : List Event). es ++ e ∷ []) h.place ∙ append_assoc h.before h.behind (e ∷ []);
    asked = h.asked;
  }

  pub asked_now : (q : List Event) (received o : List ℕ) → (slate answers settings c q).received ≡ received → Contains (frames received) o → AskedBefore q o
  asked_now q received o is h = record { before = q; behind = []; place = sym (append-nil q); asked = subst (λ (r : List ℕ). Contains (frames r) o) (sym is) h }

  pub frame_answers : (q r : List Event) (o : List ℕ) → RepliesTo (AskedBefore q) o → AnswersFrame answers settings (q ++ r) c o
  frame_answers q r o h =
      let before = h.asked.before in
      let place : q ++ r ≡ before ++ (h.asked.behind ++ r) = ap (λ (es : List Event). es ++ r) h.asked.place ∙ append_assoc before h.asked.behind r in
      record {
        before = before;
        asks = h.asks;
        message = h.message;
        front = subst (λ (es : List Event). take (length before) es ≡ before) (sym place) (take-append_seam before (h.asked.behind ++ r));
        asked = h.asked.asked;
        is = h.is;
        responds = h.responds;
      }

  -- by the state
  abbrev pub HasIn : Phase → List Event → Slate → Type 0
  HasIn Unused q s = Unit {0}
  HasIn Exchange q s = Exchanges answers settings c q s
  HasIn Open q s = Listens (AskedBefore q) s
  HasIn (Flushing why) q s = All (RepliesTo (AskedBefore q)) s.queue
  HasIn Closed q s = Unit {0}

  later_in : (p : Phase) (q : List Event) (e : Event) (s : Slate) → HasIn p q s → HasIn p (q ++ e ∷ []) s
  later_in Unused q e s h = tt
  later_in Exchange q e s h = later_exchanges answers settings c q e s h
  later_in Open q e s h = listens_weaker (AskedBefore q) (AskedBefore (q ++ e ∷ [])) (later_asked q e) s h
  later_in (Flushing why) q e s h = queue_weaker (AskedBefore q) (AskedBefore (q ++ e ∷ [])) (later_asked q e) s.queue h
  later_in Closed q e s h = tt

  abbrev Replies : List Event → List Output → Type 0
  Replies es outs = All (IsReply answers settings es) outs

  none_sent : (es : List Event) → Replies es []
  none_sent es = All-nil (IsReply answers settings es)

  closed_sent : (es : List Event) (n : ℕ) (why : Why) → Replies es (Closed_output n why ∷ [])
  closed_sent es n why = All-cons (IsReply answers settings es) (Closed_output n why) [] tt (none_sent es)

  frame_sent : (q r : List Event) (n : ℕ) (m : List ℕ) (outs : List Output) → n ≡ c → RepliesTo (AskedBefore q) m → Replies (q ++ r) outs → Replies (q ++ r) (Frame n m ∷ outs)
  frame_sent q r n m outs is h rest =
      All-cons (IsReply answers settings (q ++ r)) (Frame n m) outs (subst (λ (x : ℕ). AnswersFrame answers settings (q ++ r) x m) (sym is) (frame_answers q r m h)) rest

  -- where an event that the client hears leads
  pub record Leads (q : List Event) (e : Event) (t : Effect) : Type 0 where
    pub has : HasIn t.0.phase (q ++ e ∷ []) t.0
    pub sent : (r : List Event) → Replies (q ++ e ∷ r) t.1

  silent : (q : List Event) (e : Event) (s : Slate) → HasIn s.phase (q ++ e ∷ []) s → Leads q e (s, [])
  silent q e s h = record { has = h; sent = λ r. none_sent (q ++ e ∷ r) }

  still : (q : List Event) (e : Event) (s : Slate) → HasIn s.phase q s → Leads q e (s, [])
  still q e s h = silent q e s (later_in s.phase q e s h)

  closes : (q : List Event) (e : Event) (why : Why) (s : Slate) → Leads q e (close why s)
  closes q e why s = record { has = tt; sent = λ r. closed_sent (q ++ e ∷ r) s.client why }

  in_phase_is : (p : Phase) (q : List Event) (s : Slate) → s.phase ≡ p → HasIn p q s → HasIn s.phase q s
  in_phase_is p q s is h = subst (λ (x : Phase). HasIn x q s) (sym is) h

  -- ---- a connection

  open_still : (q : List Event) (e : Event) (s : Slate) → s.phase ≡ Open → Listens (AskedBefore q) s → Leads q e (s, [])
  open_still q e s p h = still q e s (in_phase_is Open q s p h)

  -- the first frame goes, and the others wait
  open_gone : (q : List Event) (e : Event) (at : ℕ) (m : List ℕ) (ms : List (List ℕ)) (s : Slate) → s.phase ≡ Open → s.client ≡ c → Listens (AskedBefore q) s → All (RepliesTo (AskedBefore q)) (m ∷ ms) → Leads q e (written at m ms s)
  open_gone q e at m [] s p is h g = record {
    has = (open_still q e (record s { queue = []; reset_at = at }) p (record { requests = h.requests; queue = All-nil (RepliesTo (AskedBefore q)) })).has;
    sent = λ r. frame_sent q (e ∷ r) s.client m [] is (All-head (RepliesTo (AskedBefore q)) m [] g) (none_sent (q ++ e ∷ r));
  }
  open_gone q e at m (n ∷ ms) s p is h g = record {
    has = (open_still q e (record s { queue = n ∷ ms }) p (record { requests = h.requests; queue = All-tail (RepliesTo (AskedBefore q)) m (n ∷ ms) g })).has;
    sent = λ r. frame_sent q (e ∷ r) s.client m [] is (All-head (RepliesTo (AskedBefore q)) m (n ∷ ms) g) (none_sent (q ++ e ∷ r));
  }

  write_leads : (q : List Event) (e : Event) (at took : ℕ) (ms : List (List ℕ)) (s : Slate) → s.phase ≡ Open → s.client ≡ c → Listens (AskedBefore q) s → All (RepliesTo (AskedBefore q)) ms → Leads q e (write at took ms s)
  write_leads q e at took [] s p is h g = open_still q e s p h
  write_leads q e at took (m ∷ ms) s p is h g =
      (elim (took_too_long took s) as (λ b. let effect : Effect = (if b then close WriteTimeout s else written at m ms s) in Leads q e effect) [ true ↦ closes q e WriteTimeout s | false ↦ open_gone q e at m ms s p is h g ])

  flushing_gone : (q : List Event) (e : Event) (why : Why) (m : List ℕ) (ms : List (List ℕ)) (s : Slate) → s.phase ≡ Flushing why → s.client ≡ c → All (RepliesTo (AskedBefore q)) (m ∷ ms) → Leads q e (flushed why m ms s)
  flushing_gone q e why m [] s p is g = record {
    has = tt;
    sent = λ r. frame_sent q (e ∷ r) s.client m (close why s).1 is (All-head (RepliesTo (AskedBefore q)) m [] g) (closed_sent (q ++ e ∷ r) s.client why);
  }
  flushing_gone q e why m (n ∷ ms) s p is g =
      let t : Slate = record s { queue = n ∷ ms } in
      record {
        has = later_in t.phase q e t (in_phase_is (Flushing why) q t p (All-tail (RepliesTo (AskedBefore q)) m (n ∷ ms) g));
        sent = λ r. frame_sent q (e ∷ r) s.client m [] is (All-head (RepliesTo (AskedBefore q)) m (n ∷ ms) g) (none_sent (q ++ e ∷ r));
      }

  flush_leads : (q : List Event) (e : Event) (why : Why) (took : ℕ) (ms : List (List ℕ)) (s : Slate) → s.phase ≡ Flushing why → s.client ≡ c → All (RepliesTo (AskedBefore q)) s.queue → All (RepliesTo (AskedBefore q)) ms → Leads q e (flush why took ms s)
  flush_leads q e why took [] s p is h g = still q e s (in_phase_is (Flushing why) q s p h)
  flush_leads q e why took (m ∷ ms) s p is h g =
      (elim (took_too_long took s) as (λ b. let effect : Effect = (if b then close WriteTimeout s else flushed why m ms s) in Leads q e effect) [ true ↦ closes q e WriteTimeout s | false ↦ flushing_gone q e why m ms s p is g ])

  wind_leads : (q : List Event) (e : Event) (why : Why) (ms : List (List ℕ)) (s : Slate) → All (RepliesTo (AskedBefore q)) s.queue → Leads q e (wind_up why ms s)
  wind_leads q e why [] s h = closes q e why s
  wind_leads q e why (m ∷ ms) s h = silent q e (wind_up why (m ∷ ms) s).0 (queue_weaker (AskedBefore q) (AskedBefore (q ++ e ∷ [])) (later_asked q e) s.queue h)

  tick_leads : (q : List Event) (e : Event) (at : ℕ) (s : Slate) → s.phase ≡ Open → Listens (AskedBefore q) s → Leads q e (tick at s)
  tick_leads q e at s p h =
      (elim (is_expired s.reset_at s.connection.idle_timeout at && not (list_any in_transaction s.requests)) as (λ b. let effect : Effect = (if b then close Idle s else (s, [])) in Leads q e effect) [ true ↦ closes q e Idle s | false ↦ open_still q e s p h ])

  -- what was asked before a piece, and the frames that it completes
  abbrev AskedSoFar : List Event → List ℕ → List ℕ → Type 0
  AskedSoFar q received o = AskedBefore q o ⊎ Contains (frames received) o

  so_far : (q : List Event) (e : Event) (received o : List ℕ) → (slate answers settings c (q ++ e ∷ [])).received ≡ received → AskedSoFar q received o → AskedBefore (q ++ e ∷ []) o
  so_far q e received o is h = elim h [ inl before ↦ later_asked q e o before | inr new ↦ asked_now (q ++ e ∷ []) received o is new ]

  piece_case : (q : List Event) (e : Event) (s : Slate) (effect : Effect) → s.phase ≡ Open → slate answers settings c (q ++ e ∷ []) ≡ effect.0 → Takes (AskedSoFar q s.received) s effect → Leads q e effect
  piece_case q e s effect p now h = elim h [
    | inl g ↦ (
        let received : (slate answers settings c (q ++ e ∷ [])).received ≡ s.received = ap (λ (t : Slate). t.received) now ∙ g.0.received in
        let listens = listens_weaker (AskedSoFar q s.received) (AskedBefore (q ++ e ∷ [])) (λ o a. so_far q e s.received o received a) effect.0 g.0.listens in
        record {
          has = in_phase_is Open (q ++ e ∷ []) effect.0 (g.0.phase ∙ p) listens;
          sent = λ r. subst (Replies (q ++ e ∷ r)) (sym g.1) (none_sent (q ++ e ∷ r));
        }
        )
    | inr x ↦ subst (Leads q e) (sym x.1) (closes q e Short x.0)
  ]

  piece_leads : (q : List Event) (e : Event) (at secs : ℕ) (o : List ℕ) (s : Slate) → s.phase ≡ Open → slate answers settings c (q ++ e ∷ []) ≡ (piece at secs o s).0 → Listens (AskedBefore q) s → Leads q e (piece at secs o s)
  piece_leads q e at secs o s p now h =
      let u : Slate = record s { received = s.received ++ o } in
      let fs = frames (s.received ++ o) in
      let all : All (AskedSoFar q u.received) fs = All-weaker (Contains fs) (AskedSoFar q u.received) (λ x k. inr k) fs (All-contains_itself fs) in
      let before = listens_weaker (AskedBefore q) (AskedSoFar q u.received) (λ x k. inl k) s h in
      piece_case q e u (piece at secs o s) p now
      (take_listens (AskedSoFar q u.received) at secs (drop s.taken fs) u (All-drop (AskedSoFar q u.received) s.taken fs all) (record { requests = before.requests; queue = before.queue }))

  closed_leads : (q : List Event) (e : Event) (k : EventKind) (s : Slate) → s.phase ≡ Closed → Leads q e (closed_rule k s)
  closed_leads q e Release s p = still q e (released s) (in_phase_is Closed q (released s) p tt)
  closed_leads q e k s p = still q e s (in_phase_is Closed q s p tt)

  flushing_leads : (q : List Event) (e : Event) (why : Why) (k : EventKind) (s : Slate) → s.phase ≡ Flushing why → s.client ≡ c → All (RepliesTo (AskedBefore q)) s.queue → Leads q e (flushing_rule why k s)
  flushing_leads q e why (Write took) s p is h = flush_leads q e why took s.queue s p is h h
  flushing_leads q e why Fault s p is h = closes q e By_fault s
  flushing_leads q e why k s p is h = still q e s (in_phase_is (Flushing why) q s p h)

  module _ (respond : (n : Option ℕ) (r : Req (Unit {0})) (k : ℕ) → IfSome (reply_to n r.octets (answers.answer r k)) (Responds r.octets))
      (fit : (r : Req (Unit {0})) (k : ℕ) (hint : Option ℕ) → r.transport ≡ Udp hint → IfSome (sent_for answers r (answers.answer r k)) (λ m. length (wire m) ≤ limit (answers.hint r)))
      (cut_fits : (n : ℕ) (m : Msg) → 512 ≤ n → length (wire (cut n m)) ≤ n) where
    turn_leads : (q : List Event) (e : Event) (k : ℕ) (s : Slate) → s.phase ≡ Open → Listens (AskedBefore q) s → Leads q e (turn answers e.at k (slice_get s.requests k) s, [])
    turn_leads q e k s p h =
        let g = turn_listens (AskedBefore q) answers respond e.at k s h in
        open_still q e (turn answers e.at k (slice_get s.requests k) s) (g.phase ∙ p) g.listens

    open_leads : (q : List Event) (e : Event) (k : EventKind) (s : Slate) → s.phase ≡ Open → s.client ≡ c → slate answers settings c (q ++ e ∷ []) ≡ (open_rule answers e k s).0 → Listens (AskedBefore q) s → Leads q e (open_rule answers e k s)
    open_leads q e (Piece o) s p is now h = piece_leads q e e.at e.secs o s p now h
    open_leads q e (Turn k) s p is now h = turn_leads q e k s p h
    open_leads q e (Write took) s p is now h = write_leads q e e.at took s.queue s p is h h.queue
    open_leads q e Tick s p is now h = tick_leads q e e.at s p h
    open_leads q e End s p is now h = closes q e Ended s
    open_leads q e Fault s p is now h = closes q e By_fault s
    open_leads q e Close s p is now h = wind_leads q e Commanded s.queue s h.queue
    open_leads q e (Reconfigure dgram stream) s p is now h = open_still q e (reconfigured stream.connection_config s) p (record { requests = h.requests; queue = h.queue })
    open_leads q e Shutdown s p is now h = wind_leads q e By_shutdown s.queue s h.queue
    open_leads q e k s p is now h = open_still q e s p h

    -- ---- an exchange

    exchange_leads : (q : List Event) (e : Event) (k : EventKind) (s : Slate) → s.phase ≡ Exchange → s.client ≡ c → Exchanges answers settings c q s → Leads q e (exchange_rule answers k s)
    exchange_leads q e (Turn k) s p is h =
        let g = exchange_polls answers settings (λ r n. respond (limit_for answers r) r n) fit c q k s is h in
        let t = (exchange_turn answers k (slice_get s.requests k) s).0 in
        record {
          has = later_in t.phase q e t (in_phase_is Exchange q t (g.phase ∙ p) g.exchanges);
          sent = λ r. g.sent (e ∷ r);
        }
    exchange_leads q e k s p is h = still q e s (in_phase_is Exchange q s p h)

    -- ---- a client that begins

    begins : (q : List Event) (e : Event) → is_unused (slate answers settings e.client q).phase ≡ true → is_unused (slate answers settings e.client (q ++ e ∷ [])).phase ≡ false → is_new answers settings q e ≡ true
    unfolding is_new
    begins q e was now = rw (was, now) refl

    datagram_leads : (q : List Event) (e : Event) (addr : SocketAddr) (o : List ℕ) (s : Slate) → e.kind ≡ Is_datagram addr o → e.client ≡ c → is_unused (slate answers settings c q).phase ≡ true → s.conf ≡ conf settings q
        → slate answers settings c (q ++ e ∷ []) ≡ (datagram e.client addr e.at e.secs o s).0 → Leads q e (datagram e.client addr e.at e.secs o s)
    datagram_leads q e addr o s kind is was same now =
        let new : is_new answers settings q e ≡ true = begins q e (ap (λ (d : ℕ). is_unused (slate answers settings d q).phase) is ∙ was) (ap (λ (d : ℕ). is_unused (slate answers settings d (q ++ e ∷ [])).phase) is ∙ ap (λ (t : Slate). is_unused t.phase) now) in
        record {
          has = subst (λ (d : ℕ). Exchanges answers settings d (q ++ e ∷ []) (exchange e.client addr e.at e.secs (cut_datagram o) s)) is (first_exchanges answers settings q e addr o s kind new same);
          sent = λ r. first_sent answers settings cut_fits q r e addr o s kind new same;
        }

    opened_leads : (q : List Event) (e : Event) (addr : SocketAddr) (s : Slate) → s ≡ fresh s.conf → Leads q e (opened e.client addr e.at s, [])
    opened_leads q e addr s is =
        let requests : s.requests ≡ [] = ap (λ (t : Slate). t.requests) is in
        let queue : s.queue ≡ [] = ap (λ (t : Slate). t.queue) is in
        silent q e (opened e.client addr e.at s) (record {
          requests = subst (All (Asks (AskedBefore (q ++ e ∷ [])))) (sym requests) (All-nil (Asks (AskedBefore (q ++ e ∷ []))));
          queue = subst (All (RepliesTo (AskedBefore (q ++ e ∷ [])))) (sym queue) (All-nil (RepliesTo (AskedBefore (q ++ e ∷ []))));
        })

    -- what is known of a slate before an event, which has its configurations
    record Known (q : List Event) (e : Event) (s : Slate) : Type 0 where
      heard : concerns c e ≡ true
      conf : s.conf ≡ conf_rule e.kind (conf settings q)
      unused : is_unused s.phase ≡ true → s ≡ fresh s.conf
      client : is_unused s.phase ≡ false → s.client ≡ c
      was : is_unused (slate answers settings c q).phase ≡ is_unused s.phase

    own_client : (q : List Event) (e : Event) (s : Slate) → is_wide e.kind ≡ false → Known q e s → e.client ≡ c
    own_client q e s narrow k = eqb-true e.client c (sym (concerns_own c e narrow) ∙ k.heard)

    unused_still : (q : List Event) (e : Event) (s : Slate) → s.phase ≡ Unused → Leads q e (s, [])
    unused_still q e s p = still q e s (in_phase_is Unused q s p tt)

    datagram_case : (q : List Event) (e : Event) (addr : SocketAddr) (o : List ℕ) (s : Slate) (over : Bool) → e.kind ≡ Is_datagram addr o → s.phase ≡ Unused → Known q e s
        → let effect : Effect = (if over then (s, []) else datagram e.client addr e.at e.secs o s) in slate answers settings c (q ++ e ∷ []) ≡ effect.0 → Leads q e effect
    datagram_case q e addr o s true kind p k now = unused_still q e s p
    datagram_case q e addr o s false kind p k now =
        datagram_leads q e addr o s kind (own_client q e s (ap is_wide kind) k) (k.was ∙ ap is_unused p) (k.conf ∙ ap (λ (x : EventKind). conf_rule x (conf settings q)) kind) now

    unused_leads : (q : List Event) (e : Event) (k : EventKind) (s : Slate) → e.kind ≡ k → s.phase ≡ Unused → Known q e s → slate answers settings c (q ++ e ∷ []) ≡ (unused_rule e k s).0 → Leads q e (unused_rule e k s)
    unused_leads q e (Is_datagram addr o) s kind p k now = datagram_case q e addr o s s.conf.over kind p k now
    unused_leads q e (Offer addr) s kind p k now =
        (elim s.conf.over as (λ b. let effect : Effect = (if b then (s, []) else (opened e.client addr e.at s, [])) in Leads q e effect) [ true ↦ unused_still q e s p | false ↦ opened_leads q e addr s (k.unused (ap is_unused p)) ])
    unused_leads q e x s kind p k now = unused_still q e s p

    phase_leads : (p : Phase) (q : List Event) (e : Event) (s : Slate) → s.phase ≡ p → Known q e s → slate answers settings c (q ++ e ∷ []) ≡ (in_phase answers e p s).0 → HasIn p q s → Leads q e (in_phase answers e p s)
    phase_leads Unused q e s p k now h = unused_leads q e e.kind s refl p k now
    phase_leads Exchange q e s p k now h = exchange_leads q e e.kind s p (k.client (ap is_unused p)) h
    phase_leads Open q e s p k now h = open_leads q e e.kind s p (k.client (ap is_unused p)) now h
    phase_leads (Flushing why) q e s p k now h = flushing_leads q e why e.kind s p (k.client (ap is_unused p)) h
    phase_leads Closed q e s p k now h = closed_leads q e e.kind s p

    -- the configurations change nothing of it
    conf_in : (p : Phase) (q : List Event) (x : Conf) (s : Slate) → HasIn p q s → HasIn p q (with_conf x s)
    conf_in Unused q x s h = tt
    conf_in Exchange q x s h = record { before = h.before; event = h.event; behind = h.behind; addr = h.addr; asks = h.asks; place = h.place; client = h.client; begun = h.begun; kind = h.kind; requests = h.requests }
    conf_in Open q x s h = record { requests = h.requests; queue = h.queue }
    conf_in (Flushing why) q x s h = h
    conf_in Closed q x s h = tt

    abbrev pub Has : List Event → Type 0
    Has q = HasIn (slate answers settings c q).phase q (slate answers settings c q)

    pub leads : (q : List Event) (e : Event) → concerns c e ≡ true → Has q → Leads q e (rule answers e (slate answers settings c q))
    leads q e heard h =
        let s = slate answers settings c q in
        let x = conf_rule e.kind s.conf in
        let k = plain answers settings c q in
        phase_leads s.phase q e (with_conf x s) refl
        (record {
          heard = heard;
          conf = ap (conf_rule e.kind) k.conf;
          unused = λ u. ap (with_conf x) (k.unused u);
          client = of_client answers settings c q;
          was = refl;
        })
        (slate_some answers settings c q e heard) (conf_in s.phase q x s h)

    more_case : (q : List Event) (e : Event) (b : Bool) → concerns c e ≡ b → Has q → Has (q ++ e ∷ [])
    more_case q e true is h = subst (λ (s : Slate). HasIn s.phase (q ++ e ∷ []) s) (sym (slate_some answers settings c q e is)) (leads q e is h).has
    more_case q e false is h = subst (λ (s : Slate). HasIn s.phase (q ++ e ∷ []) s) (sym (slate_none answers settings c q e is)) (later_in (slate answers settings c q).phase q e (slate answers settings c q) h)

    pub has_more : (q : List Event) (e : Event) → Has q → Has (q ++ e ∷ [])
    has_more q e h = more_case q e (concerns c e) refl h

    pub has_none : Has []
    unfolding slate
    has_none = tt

-- ---- all clients

module _ (answers : Serving) (settings : Settings)
    (respond : (n : Option ℕ) (r : Req (Unit {0})) (k : ℕ) → IfSome (reply_to n r.octets (answers.answer r k)) (Responds r.octets))
    (fit : (r : Req (Unit {0})) (k : ℕ) (hint : Option ℕ) → r.transport ≡ Udp hint → IfSome (sent_for answers r (answers.answer r k)) (λ m. length (wire m) ≤ limit (answers.hint r)))
    (cut_fits : (n : ℕ) (m : Msg) → 512 ≤ n → length (wire (cut n m)) ≤ n) where
  abbrev AllReply : List Event → List Output → Type 0
  AllReply es outs = All (IsReply answers settings es) outs

  abbrev HasAll : List Event → Type 0
  HasAll q = (c : ℕ) → Has answers settings c respond fit cut_fits q

  flat_case : (es q : List Event) (e : Event) (m : ℕ) (ms : List ℕ) (b : Bool) → concerns m e ≡ b → ((d : ℕ) → concerns d e ≡ true → AllReply es (gain answers settings d q e)) → AllReply es (flat_map (λ d. gain answers settings d q e) ms) → AllReply es (flat_map (λ d. gain answers settings d q e) (cond b (m ∷ ms) ms))
  flat_case es q e m ms true is each rest = All-append (IsReply answers settings es) (gain answers settings m q e) (flat_map (λ d. gain answers settings d q e) ms) (each m is) rest
  flat_case es q e m ms false is each rest = rest

  flat_replies : (es q : List Event) (e : Event) (ms : List ℕ) → ((d : ℕ) → concerns d e ≡ true → AllReply es (gain answers settings d q e)) → AllReply es (flat_map (λ d. gain answers settings d q e) (filter (λ d. concerns d e) ms))
  flat_replies es q e [] each = All-nil (IsReply answers settings es)
  flat_replies es q e (m ∷ ms) each = flat_case es q e m (filter (λ d. concerns d e) ms) (concerns m e) refl each (flat_replies es q e ms each)

  away_replies : (es q : List Event) (e : Event) → AllReply es (turned_away answers settings q e)
  away_replies es q e =
      let P = IsReply answers settings es in
      let x = TurnedAway e.client (conf settings q).stream.accept_connections_at_max in
      (elim (is_turned_away answers settings q e) as (λ b. All P (if b then x ∷ [] else [])) [ true ↦ All-cons P x [] tt (All-nil P) | false ↦ All-nil P ])

  gained_replies : (q r : List Event) (e : Event) → HasAll q → AllReply (q ++ e ∷ r) (gained answers settings q e)
  gained_replies q r e h =
      let es : List Event = q ++ e ∷ r in
      All-append (IsReply answers settings es) (flat_map (λ c. gain answers settings c q e) (heard answers settings q e)) (turned_away answers settings q e)
      (flat_replies es q e (members answers settings (q ++ e ∷ [])) (λ d is. (leads answers settings d respond fit cut_fits q e is (h d)).sent r))
      (away_replies es q e)

  out_replies : (r q : List Event) → HasAll q → AllReply (q ++ r) (out_after answers settings q r)
  out_replies [] q h = All-nil (IsReply answers settings (q ++ []))
  out_replies (e ∷ r) q h =
      let es : List Event = q ++ e ∷ r in
      let more = out_replies r (q ++ e ∷ []) (λ c. has_more answers settings c respond fit cut_fits q e (h c)) in
      All-append (IsReply answers settings es) (gained answers settings q e) (out_after answers settings (q ++ e ∷ []) r) (gained_replies q r e h)
      (subst (λ (fs : List Event). AllReply fs (out_after answers settings (q ++ e ∷ []) r)) (append_assoc q (e ∷ []) r) more)

  -- each output that is a reply answers what its client asked
  pub all_reply : (es : List Event) → AllReply es (out answers settings es)
  unfolding out
  all_reply es = out_replies es [] (λ c. has_none answers settings c respond fit cut_fits)
