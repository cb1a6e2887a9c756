-- The events of an exchange keep its trail: what it is sent goes at once, and nothing waits.
use Rattle.std.proofs.Common.{◌≡◌, ◌≢◌, ℕ, inl, inr, true, false, Bool, List, [], ◌∷◌, ◌++◌, length, take, replicate, Option, Some, None, refl, ap, sym, ◌∙◌, subst}
use Rattle.std.specs.Prelude.{nat_lt, option_map, slice_get, if◌then◌else◌, ◌||◌}
use Rattle.std.proofs.lemmas.List.{append-nil}
use Rattle.dns_name.specs.declared.address.SocketAddr.{SocketAddr}
use Rattle.dns_base.specs.Header.{header_of}
use Rattle.dns_base.specs.Msg.{Msg}
use Rattle.dns_base.specs.Wire.{wire}
use Rattle.dns_service.specs.Answer.{Answer}
use Rattle.dns_service.specs.Cut.{cut}
use Rattle.dns_service.specs.ErrorReply.{error_reply}
use Rattle.dns_service.specs.Req.{Req}
use Rattle.dns_service.specs.Transport.{is_stream, limit}
use Rattle.dns_events.specs.declared.event.Output.{Output}
use Rattle.dns_events.specs.declared.event.Output.TheVariants.{Datagram}
use Rattle.dns_service.specs.declared.message.TransportSpecificContext.{TransportSpecificContext}
use Rattle.dns_service.specs.declared.message.TransportSpecificContext.TheVariants.{Udp, NonUdp}
use Rattle.dns_session.specs.Datagrams.{cut_datagram, datagram, exchange}
use Rattle.dns_session.specs.Requests.{unpolled, header_size, request_of_datagram}
use Rattle.dns_session.specs.Serving.{Serving}
use Rattle.dns_session.specs.Slate.{Slate, SlateRequest, Phase, Unused, Exchange}
use Rattle.dns_session.specs.Turns.{polled, sent_at_once, sent_for, with_request}
use Rattle.dns_core.specs.Trails.{Origin, Trail, AreQueued, IsFrom, IsRising, Refuses, in_order, origin, on_wire, poll_of, polls_of, reply_at}
use Rattle.dns_core.proofs.Origins.{At, at_left, at_right, from_append, from_one, polls_append, queued_length}
use Rattle.dns_core.proofs.Trailing.{Asks, AsksAll, AsksAt, GoesOn, Has, Keeps, Kept, joined_on, stays, still_polls, trail, waits_with}
use Rattle.dns_core.proofs.TrailPieces.{asks_push}
use Rattle.dns_core.proofs.Repolled.{origin_free, others_none, polls_replied, polls_silent, repolled, rises_with, turned}

-- a reply over UDP is its octets alone
datagram_reply : (t : TransportSpecificContext) (x : Option Msg) → is_stream t ≡ false → option_map (on_wire t) x ≡ option_map wire x
datagram_reply (Udp hint) x h = refl
datagram_reply (NonUdp timeout) x h = cc

-- what is sent at once stands after what went
abbrev pub sent_now : Option Origin → List Origin → Trail → Trail
sent_now x ds t = trail (t.went ++ x ∷ []) [] (t.dropped ++ ds)

now_on : (x : Option Origin) (ds : List Origin) (t : Trail) → t.waiting ≡ [] → GoesOn t (sent_now x ds t)
now_on x ds t w = record {
  sent = λ m h. elim h [
    | inl g ↦ inl (at_left t.went (x ∷ []) (Some m) g)
    | inr v ↦ (let none : At [] (Some m) = subst (λ (ws : List (Option Origin)). At ws (Some m)) w v in let no : None ≡ Some (Some m) = none.1 in cc)
  ];
  dropped = λ m h. at_left t.dropped ds m h;
}

now_polls : (k : ℕ) (x : Option Origin) (ds : List Origin) (t : Trail) → t.waiting ≡ [] → polls_of k (in_order (sent_now x ds t)) ≡ polls_of k (in_order t) ++ polls_of k (x ∷ [])
now_polls k x ds t w =
    let here : in_order t ≡ t.went = ap (λ (ws : List (Option Origin)). t.went ++ ws) w ∙ append-nil t.went in
    ap (polls_of k) (append-nil (t.went ++ x ∷ [])) ∙ polls_append k t.went (x ∷ []) ∙ ap (λ (ms : List (Option Origin)). polls_of k ms ++ polls_of k (x ∷ [])) (sym here)

none_waits : (n : ℕ) (ws : List (Option Origin)) (x : Option Origin) → n ≡ 0 → take n (ws ++ replicate n x) ≡ []
none_waits n ws x h = ap (λ (l : ℕ). take l (ws ++ replicate n x)) h

module _ (answers : Serving) where
  -- one message is sent at once
  goes_at_once : (s u : Slate) (t : Trail) (os : List Output) (c : ℕ) (o : List ℕ) (x : Option Origin) (ds : List Origin) → Kept answers s t os → u.queue ≡ s.queue → t.waiting ≡ [] → IsFrom answers x (Datagram c o)
      → ((k : ℕ) → IsRising (polls_of k (in_order t) ++ polls_of k (x ∷ []))) → Has answers u.phase u.requests (sent_now x ds t) → Keeps answers (u, Datagram c o ∷ []) x ds t os
  goes_at_once s u t os c o x ds h q w from rises has =
      let v : Trail = sent_now x ds t in
      let l : length u.queue ≡ 0 = ap length q ∙ sym (queued_length answers t.waiting s.queue h.waiting) ∙ ap length w in
      let k : Kept answers u v (os ++ Datagram c o ∷ []) = record {
        went = from_append answers t.went (x ∷ []) os (Datagram c o ∷ []) h.went (from_one answers x (Datagram c o) from);
        waiting = subst (λ (ws : List (Option Origin)). AreQueued answers ws u.queue) w (subst (AreQueued answers t.waiting) (sym q) h.waiting);
        order = λ j. subst IsRising (sym (now_polls j x ds t w)) (rises j);
        has = has;
      } in
      subst (λ (ws : List (Option Origin)). Kept answers u (trail (t.went ++ x ∷ []) ws (t.dropped ++ ds)) (os ++ Datagram c o ∷ [])) (sym (none_waits (length u.queue) t.waiting x l)) k

  -- ---- a request of an exchange is polled

  polls_now : (k : ℕ) (r : SlateRequest) (done : Bool) (ds : List Origin) (t : Trail) → r.held ≡ None → t.waiting ≡ [] → Asks answers false k r t → Asks answers false k (repolled r r.held r.status done) (sent_now (Some (origin k r)) ds t)
  polls_now k r done ds t free w h =
      let x : Option Origin = Some (origin k r) in
      polls_replied answers false k r r.held r.status done t (sent_now x ds t) free free h (now_on x ds t w) (now_polls k x ds t w)
      (inl (at_right t.went (x ∷ []) (Some (poll_of k r r.polls)) (0, ap (λ (m : Origin). Some (Some m)) (origin_free k r free))))

  now_others : (k j : ℕ) (r : SlateRequest) (ds : List Origin) (t : Trail) → t.waiting ≡ [] → j ≢ k → polls_of j (in_order (sent_now (Some (origin k r)) ds t)) ≡ polls_of j (in_order t)
  now_others k j r ds t w ne = now_polls j (Some (origin k r)) ds t w ∙ ap (λ (ns : List ℕ). polls_of j (in_order t) ++ ns) (others_none k j r ne) ∙ append-nil (polls_of j (in_order t))

  -- a request that isn't done, at its turn
  record AtTurn (k : ℕ) (r : SlateRequest) (s : Slate) (t : Trail) (os : List Output) : Type 0 where
    phase : s.phase ≡ Exchange
    here : slice_get s.requests k ≡ Some r
    kept : Kept answers s t os

  module _ (k : ℕ) (r : SlateRequest) (s : Slate) (t : Trail) (os : List Output) (ds : List Origin) (h : AtTurn k r s t os) where
    abbrev answer : Answer
    answer = answers.answer r.request r.polls

    exchanged : Has answers Exchange s.requests t
    exchanged = subst (λ (p : Phase). Has answers p s.requests t) h.phase h.kept.has

    asks_here : Asks answers false k r t
    asks_here = subst (λ (x : Option SlateRequest). AsksAt answers false k x t) h.here (exchanged.1 k)

    reply_here : reply_at answers (poll_of k r r.polls) ≡ option_map wire (sent_for answers r.request answer)
    reply_here = datagram_reply r.request.transport (sent_for answers r.request answer) asks_here.transport

    has_turned : (rs : List SlateRequest) (u : Trail) → u.waiting ≡ [] → AsksAll answers false rs u → Has answers s.phase rs u
    has_turned rs u w g = subst (λ (p : Phase). Has answers p rs u) (sym h.phase) (w, g)

    sent_case : (x : Option Msg) → sent_for answers r.request answer ≡ x → Keeps answers (with_request k (polled answer r) s, sent_at_once s.client x) (Some (origin k r)) ds t os
    sent_case None is =
        let u = with_request k (polled answer r) s in
        let free : r.held ≡ None = asks_here.unheld refl in
        let asks = polls_silent answers false k r r.held r.status (polled answer r).done ds t free free asks_here (reply_here ∙ ap (option_map wire) is) in
        stays answers s u t os (Some (origin k r)) ds h.kept refl
        (has_turned u.requests (waits_with [] ds t) (append-nil t.waiting ∙ exchanged.0)
        (turned answers false k s.requests r (polled answer r) t (waits_with [] ds t) h.here exchanged.1 asks (λ j ne. still_polls j ds t) (joined_on [] ds t)))
    sent_case (Some m) is =
        let u = with_request k (polled answer r) s in
        let x : Option Origin = Some (origin k r) in
        let free : r.held ≡ None = asks_here.unheld refl in
        let asks = polls_now k r (polled answer r).done ds t free exchanged.0 asks_here in
        goes_at_once s u t os s.client (wire m) x ds h.kept refl exchanged.0 (ap (reply_at answers) (origin_free k r free) ∙ reply_here ∙ ap (option_map wire) is)
        (rises_with answers false k r t asks_here h.kept.order)
        (has_turned u.requests (sent_now x ds t) refl
        (turned answers false k s.requests r (polled answer r) t (sent_now x ds t) h.here exchanged.1 asks (λ j ne. now_others k j r ds t exchanged.0 ne) (now_on x ds t exchanged.0)))

  pub exchange_keeps : (k : ℕ) (r : SlateRequest) (s : Slate) (t : Trail) (os : List Output) (ds : List Origin) → s.phase ≡ Exchange → slice_get s.requests k ≡ Some r → Kept answers s t os
      → Keeps answers (with_request k (polled (answers.answer r.request r.polls) r) s, sent_at_once s.client (sent_for answers r.request (answers.answer r.request r.polls))) (Some (origin k r)) ds t os
  exchange_keeps k r s t os ds p at h = sent_case k r s t os ds (record { phase = p; here = at; kept = h }) (sent_for answers r.request (answers.answer r.request r.polls)) refl

  -- ---- an exchange begins

  begun_asks : (u : Trail) (q : Req (Unit {0})) (short qr : Bool) → is_stream q.transport ≡ false → ((k : ℕ) → polls_of k (in_order u) ≡ []) → AsksAll answers false (if short || qr then [] else unpolled q ∷ []) u
  begun_asks u q true qr is h = h
  begun_asks u q false true is h = h
  begun_asks u q false false is h = asks_push answers false [] q u is h

  begun_case : (s u : Slate) (t : Trail) (os : List Output) (c : ℕ) (o : List ℕ) (ds : List Origin) (short qr : Bool) → Kept answers s t os → u.queue ≡ s.queue → u.phase ≡ Exchange → t.waiting ≡ [] → ((k : ℕ) → polls_of k (in_order t) ≡ [])
      → ((v : Trail) → ((k : ℕ) → polls_of k (in_order v) ≡ []) → AsksAll answers false u.requests v) → (qr ≡ true → Refuses (Datagram c o))
      → let outs : List Output = (if short then [] else (if qr then Datagram c o ∷ [] else [])) in Keeps answers (u, outs) None ds t os
  begun_case s u t os c o ds true qr h q p w none asks refuses =
      stays answers s u t os None ds h q (subst (λ (x : Phase). Has answers x u.requests (waits_with [] ds t)) (sym p) (append-nil t.waiting ∙ w, asks (waits_with [] ds t) (λ k. still_polls k ds t ∙ none k)))
  begun_case s u t os c o ds false false h q p w none asks refuses =
      stays answers s u t os None ds h q (subst (λ (x : Phase). Has answers x u.requests (waits_with [] ds t)) (sym p) (append-nil t.waiting ∙ w, asks (waits_with [] ds t) (λ k. still_polls k ds t ∙ none k)))
  begun_case s u t os c o ds false true h q p w none asks refuses =
      let polls = λ (k : ℕ). now_polls k None ds t w ∙ append-nil (polls_of k (in_order t)) in
      goes_at_once s u t os c o None ds h q w (refuses refl) (λ k. subst IsRising (sym (append-nil (polls_of k (in_order t)))) (h.order k))
      (subst (λ (x : Phase). Has answers x u.requests (sent_now None ds t)) (sym p) (refl, asks (sent_now None ds t) (λ k. polls k ∙ none k)))

  pub datagram_keeps : (client : ℕ) (addr : SocketAddr) (at secs : ℕ) (o : List ℕ) (s : Slate) (t : Trail) (os : List Output) (ds : List Origin) → s.phase ≡ Unused → Kept answers s t os → Keeps answers (datagram client addr at secs o s) None ds t os
  datagram_keeps client addr at secs o s t os ds p h =
      let d = cut_datagram o in
      let new : Has answers Unused s.requests t = subst (λ (x : Phase). Has answers x s.requests t) p h.has in
      begun_case s (exchange client addr at secs d s) t os client (wire (cut (limit s.conf.dgram.max_response_size) (error_reply d 1))) ds (nat_lt (length d) header_size) (header_of d).qr h refl refl new.1 new.2
      (λ v none. begun_asks v (request_of_datagram s.conf.dgram addr at secs d) (nat_lt (length d) header_size) (header_of d).qr refl none)
      (λ qr. (d, s.conf.dgram.max_response_size, qr, refl))
