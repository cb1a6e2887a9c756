-- Each event keeps the trail of the slate that it finds, by its state.
use Rattle.std.proofs.Common.{◌≡◌, ◌≢◌, ℕ, ◌<◌, true, false, Bool, List, [], ◌∷◌, ◌++◌, length, drop, take, replicate, Option, Some, None, refl, ap, sym, ◌∙◌, subst, append_assoc, arith}
use Rattle.std.specs.Prelude.{filter, option_map, slice_get, if◌then◌else◌}
use Rattle.std.proofs.lemmas.List.{append-nil}
use Rattle.dns_name.specs.declared.address.SocketAddr.{SocketAddr}
use Rattle.dns_events.specs.declared.event.Event.{Event}
use Rattle.dns_events.specs.declared.event.EventKind.{EventKind}
use Rattle.dns_events.specs.declared.event.EventKind.TheVariants.{Turn}
use Rattle.dns_events.specs.declared.event.Output.{Output}
use Rattle.dns_events.specs.declared.event.Output.TheVariants.{Datagram as Datagram_output, Frame, Closed as Closed_output, TurnedAway}
use Rattle.dns_session.specs.Connections.{opened, piece, reconfigured, released, wind_up}
use Rattle.dns_session.specs.Datagrams.{datagram}
use Rattle.dns_session.specs.Rule.{rule}
use Rattle.dns_session.specs.Serving.{Serving}
use Rattle.dns_session.specs.Slate.{Slate, SlateRequest, Conf, Effect, Phase, Unused, Exchange, Open, Flushing, Closed, conf_rule, fresh, with_conf}
use Rattle.dns_session.specs.Turns.{polled, sent_at_once, sent_for, turn_request, with_request}
use Rattle.dns_core.specs.Own.{own}
use Rattle.dns_core.specs.Sent.{sent, sent_after, slate, slate_after}
use Rattle.dns_core.specs.Settings.{opening}
use Rattle.dns_core.specs.Trails.{Origin, Trail, IsSomewhere, dropped_by, dropped_of, is_datagram_sent, is_frame, is_open, origin, origin_at, messages_sent, no_trail, poll_of, reply_at, trail_after, trailed}
use Rattle.dns_events.specs.declared.settings.Settings.{Settings}
use Rattle.dns_session.proofs.Walks.{Rows, rows}
use Rattle.dns_core.proofs.Trailing.{AsksAll, AsksAt, Has, Keeps, Kept, closes, has_still, stays, still, still_polls, trail, trail_by, waits_with}
use Rattle.dns_core.proofs.Origins.{queue_origins_are}
use Rattle.dns_core.proofs.TrailExchanges.{datagram_keeps, exchange_keeps}
use Rattle.dns_core.proofs.TrailPieces.{piece_keeps}
use Rattle.dns_core.proofs.TrailTurns.{turns_on}
use Rattle.dns_core.proofs.TrailWrites.{front_of, written_keeps, flushed_keeps}

messages_append : (xs ys : List Output) → messages_sent (xs ++ ys) ≡ messages_sent xs ++ messages_sent ys
messages_append [] ys = refl
messages_append (Frame c o ∷ xs) ys = ap (λ (os : List Output). Frame c o ∷ os) (messages_append xs ys)
messages_append (Datagram_output c o ∷ xs) ys = ap (λ (os : List Output). Datagram_output c o ∷ os) (messages_append xs ys)
messages_append (Closed_output c why ∷ xs) ys = messages_append xs ys
messages_append (TurnedAway c accepted ∷ xs) ys = messages_append xs ys

-- the configurations are no part of where a reply comes from
origin_conf : (k : EventKind) (c : Conf) (s : Slate) → origin_at k s ≡ origin_at k (with_conf c s)
origin_conf (Turn k) c s = refl
origin_conf k c s = refl

module _ (answers : Serving) where
  drops_conf_case : (at k : ℕ) (x : Option SlateRequest) (c : Conf) (s : Slate) → dropped_of answers at k x s ≡ dropped_of answers at k x (with_conf c s)
  drops_conf_case at k None c s = refl
  drops_conf_case at k (Some r) c s = refl

  drops_conf : (at : ℕ) (k : EventKind) (c : Conf) (s : Slate) → dropped_by answers at k s ≡ dropped_by answers at k (with_conf c s)
  drops_conf at (Turn k) c s = ap (λ (ds : List Origin). if is_open s.phase then ds else []) (drops_conf_case at k (slice_get s.requests k) c s)
  drops_conf at k c s = refl

  opened_keeps : (client : ℕ) (addr : SocketAddr) (at : ℕ) (s : Slate) (t : Trail) (os : List Output) (ds : List Origin) → s.phase ≡ Unused → Kept answers s t os → Keeps answers (opened client addr at s, []) None ds t os
  opened_keeps client addr at s t os ds p h =
      let new : Has answers Unused s.requests t = subst (λ (x : Phase). Has answers x s.requests t) p h.has in
      stays answers s (opened client addr at s) t os None ds h refl
      (subst (λ (rs : List SlateRequest). AsksAll answers true rs (waits_with [] ds t)) (sym new.0) (λ k. still_polls k ds t ∙ new.2 k))

  -- ---- what each entry of the rule's table does to a trail, by its event's poll and with what that dropped

  abbrev dropped_at : Event → Slate → List Origin
  dropped_at e s = dropped_by answers e.at e.kind s

  abbrev Moves : Event → Slate → Effect → Type 0
  Moves e s effect = (t : Trail) (os : List Output) → Kept answers s t os → Keeps answers effect (origin_at e.kind s) (dropped_at e s) t os

  under : (e : Event) (s : Slate) (effect : Effect) (t : Trail) (os : List Output) (x : Option Origin) → origin_at e.kind s ≡ x → Keeps answers effect x (dropped_at e s) t os → Keeps answers effect (origin_at e.kind s) (dropped_at e s) t os
  under e s effect t os x is h = subst (λ (y : Option Origin). Keeps answers effect y (dropped_at e s) t os) (sym is) h

  turn_origin : (e : Event) (k : ℕ) (r : SlateRequest) (s : Slate) → e.kind ≡ Turn k → slice_get s.requests k ≡ Some r → origin_at e.kind s ≡ Some (origin k r)
  turn_origin e k r s is at = ap (λ (x : EventKind). origin_at x s) is ∙ ap (option_map (λ (q : SlateRequest). origin k q)) at

  dropped_is : (e : Event) (k : ℕ) (r : SlateRequest) (s : Slate) → e.kind ≡ Turn k → s.phase ≡ Open → slice_get s.requests k ≡ Some r → dropped_at e s ≡ dropped_of answers e.at k (Some r) s
  dropped_is e k r s is p at =
      ap (λ (x : EventKind). dropped_by answers e.at x s) is
      ∙ (ap (λ (x : Phase). if is_open x then dropped_of answers e.at k (slice_get s.requests k) s else []) p
      ∙ ap (λ (x : Option SlateRequest). dropped_of answers e.at k x s) at)

  moves : (e : Event) → Rows answers e (λ s u. Moves e s u)
  moves e = record {
    stays = λ s t os h. still answers s t os (origin_at e.kind s) (dropped_at e s) h;
    exchanges = λ addr o s is p over t os h. under e s (datagram e.client addr e.at e.secs o s) t os None (ap (λ (x : EventKind). origin_at x s) is) (datagram_keeps answers e.client addr e.at e.secs o s t os (dropped_at e s) p h);
    opens = λ addr s is p over t os h. under e s (opened e.client addr e.at s, []) t os None (ap (λ (x : EventKind). origin_at x s) is) (opened_keeps e.client addr e.at s t os (dropped_at e s) p h);
    polls = λ k r s is p at d t os h. under e s (with_request k (polled (answers.answer r.request r.polls) r) s, sent_at_once s.client (sent_for answers r.request (answers.answer r.request r.polls))) t os
        (Some (origin k r)) (turn_origin e k r s is at) (exchange_keeps answers k r s t os (dropped_at e s) p at h);
    takes = λ o s is p t os h. under e s (piece e.at e.secs o s) t os None (ap (λ (x : EventKind). origin_at x s) is) (piece_keeps answers e.at e.secs o s t os (dropped_at e s) p h);
    turns = λ k r s is p at d t os h. under e s (turn_request answers e.at k r.held r s, []) t os (Some (origin k r)) (turn_origin e k r s is at)
        (turns_on answers e.at k r s t os (dropped_at e s) (record { phase = p; here = at; kept = h; undone = d; dropped = λ yes. dropped_is e k r s is p at ∙ ap (λ (b : Bool). if b then origin k r ∷ [] else []) yes }));
    writes = λ m ms s p is t os h. written_keeps answers e.at m ms s t os (origin_at e.kind s) (dropped_at e s) (front_of answers m ms s t os is h);
    flushes = λ why m ms s p is t os h. flushed_keeps answers why m ms s t os (origin_at e.kind s) (dropped_at e s) (front_of answers m ms s t os is h);
    closes = λ why s c r t os h. closes answers why s s t os (origin_at e.kind s) (dropped_at e s) h;
    winds = λ why m ms s p is t os h. stays answers s (wind_up why (m ∷ ms) s).0 t os (origin_at e.kind s) (dropped_at e s) h refl refl;
    reconfigures = λ dgram stream s is p t os h. stays answers s (reconfigured stream.connection_config s) t os (origin_at e.kind s) (dropped_at e s) h refl (has_still answers s.phase s.requests (dropped_at e s) t h.has);
    releases = λ s is p t os h. stays answers s (released s) t os (origin_at e.kind s) (dropped_at e s) h refl (has_still answers s.phase s.requests (dropped_at e s) t h.has);
  }

  conf_kept : (c : Conf) (s : Slate) (t : Trail) (os : List Output) → Kept answers s t os → Kept answers (with_conf c s) t os
  conf_kept c s t os h = record { went = h.went; waiting = h.waiting; order = h.order; has = h.has }

  trailed_is : (e : Event) (s : Slate) (t : Trail) → trail_by (rule answers e s) (origin_at e.kind s) (dropped_by answers e.at e.kind s) t ≡ trailed answers e s t
  trailed_is e s t =
      let effect : Effect = rule answers e s in
      let gone : ℕ = length (filter is_frame effect.1) in
      let x : Option Origin = origin_at e.kind s in
      ap (λ (ws : List (Option Origin)). trail (t.went ++ (take gone t.waiting ++ replicate (length (filter is_datagram_sent effect.1)) x)) ws (t.dropped ++ dropped_by answers e.at e.kind s))
      (sym (queue_origins_are effect.0.queue (length effect.0.queue) (drop gone t.waiting) x (omega arith)))

  rule_keeps : (e : Event) (s : Slate) (t : Trail) (os : List Output) → Kept answers s t os → Kept answers (rule answers e s).0 (trailed answers e s t) (os ++ messages_sent (rule answers e s).1)
  rule_keeps e s t os h =
      let c = conf_rule e.kind s.conf in
      subst (λ (u : Trail). Kept answers (rule answers e s).0 u (os ++ messages_sent (rule answers e s).1)) (trailed_is e s t)
      (subst (λ (x : Option Origin). Keeps answers (rule answers e s) x (dropped_at e s) t os) (sym (origin_conf e.kind c s))
      (subst (λ (ds : List Origin). Keeps answers (rule answers e s) (origin_at e.kind (with_conf c s)) ds t os) (sym (drops_conf e.at e.kind c s))
      (rows answers e (λ s u. Moves e s u) (moves e) s t os (conf_kept c s t os h))))

  pub kept_after : (es : List Event) (s : Slate) (t : Trail) (os : List Output) → Kept answers s t os → Kept answers (slate_after answers s es) (trail_after answers s t es) (os ++ messages_sent (sent_after answers s es))
  kept_after [] s t os h = subst (Kept answers s t) (sym (append-nil os)) h
  kept_after (e ∷ es) s t os h =
      let effect : Effect = rule answers e s in
      subst (Kept answers (slate_after answers effect.0 es) (trail_after answers effect.0 (trailed answers e s t) es))
      (append_assoc os (messages_sent effect.1) (messages_sent (sent_after answers effect.0 es)) ∙ ap (λ (ps : List Output). os ++ ps) (sym (messages_append effect.1 (sent_after answers effect.0 es))))
      (kept_after es effect.0 (trailed answers e s t) (os ++ messages_sent effect.1) (rule_keeps e s t os h))

  pub first_kept : (c : Conf) → Kept answers (fresh c) no_trail []
  first_kept c = record { went = tt; waiting = tt; order = λ k. tt; has = (refl, refl, λ k. refl) }

  -- the events of a client keep its trail
  pub client_kept : (settings : Settings) (c : ℕ) (es : List Event) → Kept answers (slate answers settings c es) (trail_after answers (fresh (opening settings)) no_trail (own c es)) (messages_sent (sent answers settings (own c es)))
  unfolding slate sent
  client_kept settings c es = kept_after (own c es) (fresh (opening settings)) no_trail [] (first_kept (opening settings))

  -- ---- what is missing

  no_request : (k : ℕ) (rs : List SlateRequest) (r : SlateRequest) (P : Type 0) → rs ≡ [] → slice_get rs k ≡ Some r → P
  no_request k rs r P e at = let no : None ≡ Some r = ap (λ (xs : List SlateRequest). slice_get xs k) (sym e) ∙ at in cc

  asked_somewhere : (stream : Bool) (k n : ℕ) (rs : List SlateRequest) (r : SlateRequest) (t : Trail) → AsksAll answers stream rs t → slice_get rs k ≡ Some r → n < r.polls → reply_at answers (poll_of k r n) ≢ None → IsSomewhere answers k r t (poll_of k r n)
  asked_somewhere stream k n rs r t h at lt ne =
      let asks : AsksAt answers stream k (Some r) t = subst (λ (x : Option SlateRequest). AsksAt answers stream k x t) at (h k) in
      asks.somewhere n lt ne

  pub reply_somewhere : (p : Phase) (k n : ℕ) (rs : List SlateRequest) (r : SlateRequest) (t : Trail) → Has answers p rs t → slice_get rs k ≡ Some r → n < r.polls → reply_at answers (poll_of k r n) ≢ None → IsSomewhere answers k r t (poll_of k r n)
  reply_somewhere Unused k n rs r t h at lt ne = no_request k rs r (IsSomewhere answers k r t (poll_of k r n)) h.0 at
  reply_somewhere Exchange k n rs r t h at lt ne = asked_somewhere false k n rs r t h.1 at lt ne
  reply_somewhere Open k n rs r t h at lt ne = asked_somewhere true k n rs r t h at lt ne
  reply_somewhere (Flushing why) k n rs r t h at lt ne = no_request k rs r (IsSomewhere answers k r t (poll_of k r n)) h at
  reply_somewhere Closed k n rs r t h at lt ne = no_request k rs r (IsSomewhere answers k r t (poll_of k r n)) h at
