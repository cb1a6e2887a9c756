-- The turn of a request of a connection keeps its trail.
use Rattle.std.proofs.Common.{◌≡◌, ◌≢◌, ℕ, true, false, Bool, List, [], ◌∷◌, ◌++◌, Option, Some, None, refl, ap, sym, ◌∙◌, subst}
use Rattle.std.specs.Prelude.{is_some, not, option_map, slice_get, if◌then◌else◌, ◌&&◌}
use Rattle.std.proofs.lemmas.List.{append-nil}
use Rattle.dns_base.specs.Msg.{Msg}
use Rattle.dns_base.specs.Wire.{wire}
use Rattle.dns_service.specs.Answer.{Answer}
use Rattle.dns_service.specs.Config.{Connection}
use Rattle.dns_service.specs.Transport.{is_stream, limit, limit_over}
use Rattle.dns_events.specs.declared.event.Output.{Output}
use Rattle.dns_service.specs.declared.message.TransportSpecificContext.{TransportSpecificContext}
use Rattle.dns_service.specs.declared.message.TransportSpecificContext.TheVariants.{Udp, NonUdp}
use Rattle.dns_session.specs.Connections.{append_frame, is_in_transaction, room}
use Rattle.dns_session.specs.Frames.{framed}
use Rattle.dns_session.specs.Serving.{Serving}
use Rattle.dns_session.specs.Slate.{Slate, SlateRequest, Phase, Open}
use Rattle.dns_session.specs.Turns.{answered, hold, queue_reply, reply_to, retimed, sent_for, turn_request, with_request}
use Rattle.dns_core.specs.Trails.{Origin, Trail, drops, in_order, origin, on_wire, poll_of, polls_of, reply_at}
use Rattle.dns_core.proofs.Trailing.{Asks, AsksAll, AsksAt, Has, Keeps, Kept, joined_on, joins, polls_joined, stays, still, still_polls, waits_with}
use Rattle.dns_core.proofs.Repolled.{held_queued, origin_free, others_none, polls_dropped, polls_held, polls_queued, polls_silent, rises_with, turned}

-- a request over a stream has no limit, and its replies stand after their length
stream_reply : (t : TransportSpecificContext) (n : ℕ) (x : Option ℕ → Option Msg) → is_stream t ≡ true → option_map (on_wire t) (x (limit_over t n)) ≡ option_map (λ m. framed (wire m)) (x None)
stream_reply (Udp hint) n x h = cc
stream_reply (NonUdp timeout) n x h = refl

stream_sent : (t : TransportSpecificContext) (n : ℕ) (x : Option ℕ → Option Msg) → is_stream t ≡ true → x (limit_over t n) ≡ x None
stream_sent (Udp hint) n x h = cc
stream_sent (NonUdp timeout) n x h = refl

drops_case : (done held some space through : Bool) → done ≡ false → held ≡ false → some ≡ true → space ≡ false → through ≡ false → (not done && (not held && (some && (not space && not through)))) ≡ true
drops_case done held some space through a b c d e = rw (a, b, c, d, e) refl

module _ (answers : Serving) where
  open_asks : (s : Slate) (t : Trail) (os : List Output) → s.phase ≡ Open → Kept answers s t os → AsksAll answers true s.requests t
  open_asks s t os e h = subst (λ (p : Phase). Has answers p s.requests t) e h.has

  -- a request that isn't done, at its turn
  pub record AtTurn (at k : ℕ) (r : SlateRequest) (s : Slate) (t : Trail) (os : List Output) (ds : List Origin) : Type 0 where
    pub phase : s.phase ≡ Open
    pub here : slice_get s.requests k ≡ Some r
    pub kept : Kept answers s t os
    pub undone : r.done ≡ false
    pub dropped : drops answers at r s ≡ true → ds ≡ origin k r ∷ []

  module _ (at k : ℕ) (r : SlateRequest) (s : Slate) (t : Trail) (os : List Output) (ds : List Origin) (h : AtTurn at k r s t os ds) where
    asks_all : AsksAll answers true s.requests t
    asks_all = open_asks s t os h.phase h.kept

    asks_here : Asks answers true k r t
    asks_here = subst (λ (x : Option SlateRequest). AsksAt answers true k x t) h.here (asks_all k)

    has_turned : (rs : List SlateRequest) (u : Trail) → AsksAll answers true rs u → Has answers s.phase rs u
    has_turned rs u g = subst (λ (p : Phase). Has answers p rs u) (sym h.phase) g

    -- nothing is queued
    quietly : (c : Connection) (r' : SlateRequest) → Asks answers true k r' (waits_with [] ds t) → Keeps answers (with_request k r' (record s { connection = c }), []) (Some (origin k r)) ds t os
    quietly c r' asks =
        let u = with_request k r' (record s { connection = c }) in
        stays answers s u t os (Some (origin k r)) ds h.kept refl
        (has_turned u.requests (waits_with [] ds t) (turned answers true k s.requests r r' t (waits_with [] ds t) h.here asks_all asks (λ j ne. still_polls j ds t) (joined_on [] ds t)))

    -- a reply is queued
    still_others : (j : ℕ) → j ≢ k → polls_of j (in_order (waits_with (Some (origin k r) ∷ []) ds t)) ≡ polls_of j (in_order t)
    still_others j ne = polls_joined j (Some (origin k r) ∷ []) ds t ∙ ap (λ (ns : List ℕ). polls_of j (in_order t) ++ ns) (others_none k j r ne) ∙ append-nil (polls_of j (in_order t))

    queues : (c : Connection) (r' : SlateRequest) (o : List ℕ) → reply_at answers (origin k r) ≡ Some o → Asks answers true k r' (waits_with (Some (origin k r) ∷ []) ds t) → Keeps answers (append_frame at o (with_request k r' (record s { connection = c })), []) (Some (origin k r)) ds t os
    queues c r' o reply asks =
        let u = append_frame at o (with_request k r' (record s { connection = c })) in
        let v = waits_with (Some (origin k r) ∷ []) ds t in
        joins answers s u t os (o ∷ []) (Some (origin k r)) ds h.kept refl ((λ client. reply), tt) (rises_with answers true k r t asks_here h.kept.order)
        (has_turned u.requests v (turned answers true k s.requests r r' t v h.here asks_all asks still_others (joined_on (Some (origin k r) ∷ []) ds t)))

    -- ---- a request that holds nothing is polled

    module _ (free : r.held ≡ None) where
      abbrev answer : Answer
      answer = answers.answer r.request r.polls

      reply_here : reply_at answers (poll_of k r r.polls) ≡ option_map (λ m. framed (wire m)) (reply_to None r.request.octets answer)
      reply_here = stream_reply r.request.transport (limit (answers.hint r.request)) (λ (n : Option ℕ). reply_to n r.request.octets answer) asks_here.transport

      dropped_here : (m : Msg) → reply_to None r.request.octets answer ≡ Some m → room at s ≡ false → is_in_transaction (answered answer r).status ≡ false → ds ≡ origin k r ∷ []
      dropped_here m is full out =
          h.dropped (drops_case r.done (is_some r.held) (is_some (sent_for answers r.request answer)) (room at s) (is_in_transaction (answered answer r).status) h.undone (ap is_some free)
          (ap is_some (stream_sent r.request.transport (limit (answers.hint r.request)) (λ (n : Option ℕ). reply_to n r.request.octets answer) asks_here.transport ∙ is)) full out)

      hold_case : (m : Msg) (b : Bool) → reply_to None r.request.octets answer ≡ Some m → room at s ≡ false → is_in_transaction (answered answer r).status ≡ b
          → let x : SlateRequest = (if b then record (answered answer r) { held = Some (framed (wire m)) } else answered answer r) in Keeps answers (with_request k x (retimed answer s), []) (Some (origin k r)) ds t os
      hold_case m true is full through =
          quietly (retimed answer s).connection (record (answered answer r) { held = Some (framed (wire m)) })
          (polls_held answers k r (framed (wire m)) (answered answer r).status (answered answer r).done ds t free asks_here (reply_here ∙ ap (option_map (λ x. framed (wire x))) is))
      hold_case m false is full out =
          let asks = polls_dropped answers k r r.held (answered answer r).status (answered answer r).done t free free asks_here in
          quietly (retimed answer s).connection (answered answer r)
          (subst (λ (x : List Origin). Asks answers true k (answered answer r) (waits_with [] x t)) (sym (dropped_here m is full out)) asks)

      frame_case : (m : Msg) (b : Bool) → reply_to None r.request.octets answer ≡ Some m → room at s ≡ b
          → let u : Slate = (if b then append_frame at (framed (wire m)) (with_request k (answered answer r) (retimed answer s)) else with_request k (hold (framed (wire m)) (answered answer r)) (retimed answer s)) in Keeps answers (u, []) (Some (origin k r)) ds t os
      frame_case m true is space =
          queues (retimed answer s).connection (answered answer r) (framed (wire m)) (ap (reply_at answers) (origin_free k r free) ∙ reply_here ∙ ap (option_map (λ x. framed (wire x))) is)
          (polls_queued answers k r r.held (answered answer r).status (answered answer r).done ds t free free asks_here)
      frame_case m false is full = hold_case m (is_in_transaction (answered answer r).status) is full refl

      reply_case : (x : Option Msg) → reply_to None r.request.octets answer ≡ x → Keeps answers (queue_reply at k x (answered answer r) (retimed answer s), []) (Some (origin k r)) ds t os
      reply_case None is =
          quietly (retimed answer s).connection (answered answer r)
          (polls_silent answers true k r r.held (answered answer r).status (answered answer r).done ds t free free asks_here (reply_here ∙ ap (option_map (λ x. framed (wire x))) is))
      reply_case (Some m) is = frame_case m (room at s) is refl

    -- ---- one whose reply is held isn't

    held_case : (o : List ℕ) (b : Bool) → r.held ≡ Some o → let u : Slate = (if b then append_frame at o (with_request k (record r { held = None }) s) else s) in Keeps answers (u, []) (Some (origin k r)) ds t os
    held_case o true is = queues s.connection (record r { held = None }) o (asks_here.held o is).1 (held_queued answers k r o ds t is asks_here)
    held_case o false is = still answers s t os (Some (origin k r)) ds h.kept

    request_turn : (x : Option (List ℕ)) → r.held ≡ x → Keeps answers (turn_request answers at k x r s, []) (Some (origin k r)) ds t os
    request_turn None is = reply_case is (reply_to None r.request.octets (answers.answer r.request r.polls)) refl
    request_turn (Some o) is = held_case o (room at s) is

    pub turns_on : Keeps answers (turn_request answers at k r.held r s, []) (Some (origin k r)) ds t os
    turns_on = request_turn r.held refl
