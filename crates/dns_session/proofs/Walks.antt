-- What holds of each thing that a rule does to a slate holds of the whole rule. `Rows` asks for each entry of the rule's table,
-- `Walks` for each thing that an entry does, one after another.
use Rattle.dns_session.specs.Serving.{Serving}
use Rattle.std.proofs.Common.{◌≡◌, ℕ, ◌+◌, List, [], ◌∷◌, ◌++◌, length, drop, Bool, true, false, refl, ap, ◌∙◌, arith, inl}
use Rattle.std.specs.Prelude.{Option, Some, None, slice_get, nat_lt, if◌then◌else◌, not, ◌&&◌}
use Rattle.std.specs.List.{list_any}
use Rattle.std.proofs.lemmas.Bool.Decides.{nat_tests}
use Rattle.dns_name.specs.declared.address.SocketAddr.{SocketAddr}
use Rattle.dns_base.specs.Header.{header_of}
use Rattle.dns_base.specs.Msg.{Msg}
use Rattle.dns_base.specs.Wire.{wire}
use Rattle.dns_framing.specs.Answer.{Answer}
use Rattle.dns_framing.specs.Config.{Dgram, Stream}
use Rattle.dns_framing.specs.ErrorReply.{error_reply}
use Rattle.dns_events.specs.declared.event.Event.{Event}
use Rattle.dns_events.specs.declared.event.EventKind.{EventKind}
use Rattle.dns_events.specs.declared.event.EventKind.TheVariants.{Datagram, Turn, Offer, Piece, End, Fault, Close, Write, Tick, Release, Reconfigure, Shutdown}
use Rattle.dns_events.specs.declared.event.Why.{Why}
use Rattle.dns_events.specs.declared.event.Why.TheVariants.{Ended, Short, Idle, WriteTimeout, Commanded, Fault as By_fault, Shutdown as By_shutdown}
use Rattle.dns_session.specs.Frames.{frames, framed}
use Rattle.dns_session.specs.Slate.{Slate, SlateRequest, Effect, Phase, Unused, Exchange, Open, Flushing, Closed, conf_rule, with_conf}
use Rattle.dns_session.specs.Reasons.{ClosesFor}
use Rattle.dns_session.specs.Requests.{unpolled, header_size, most_requests, request_of_frame}
use Rattle.dns_session.specs.Datagrams.{datagram}
use Rattle.dns_session.specs.Timers.{is_expired}
use Rattle.dns_session.specs.Connections.{opened, reconfigured, released, close, wind_up, append_frame, enqueue_or_drop, in_transaction, room, take_frame, take_request, take_frames, piece, took_too_long, written, write, flushed, flush}
use Rattle.dns_session.specs.Turns.{exchange_turn, turn, turn_request, poll_request, polled, answered, retimed, with_request, reply_to, sent_at_once, sent_for, hold, queue_reply}
use Rattle.dns_session.proofs.Taken.{takes}
use Rattle.dns_session.specs.Rule.{rule, in_phase, unused_rule, exchange_rule, open_rule, flushing_rule, closed_rule}

-- an open connection, or one that only writes
abbrev pub may_close : Phase → Bool
may_close Open = true
may_close (Flushing why) = true
may_close _ = false

-- the answers are those of the wrapped service; at one event
module _ (answers : Serving) (e : Event) where
  -- what each entry of the rule's table shows of a slate and of what it becomes and is told
  pub record Rows (P : Slate → Effect → Type 0) : Type 0 where
    pub stays : (s : Slate) → P s (s, [])
    pub exchanges : (addr : SocketAddr) (o : List ℕ) (s : Slate) → e.kind ≡ Datagram addr o → s.phase ≡ Unused → s.conf.over ≡ false → P s (datagram e.client addr e.at e.secs o s)
    pub opens : (addr : SocketAddr) (s : Slate) → e.kind ≡ Offer addr → s.phase ≡ Unused → s.conf.over ≡ false → P s (opened e.client addr e.at s, [])
    pub polls : (k : ℕ) (r : SlateRequest) (s : Slate) → e.kind ≡ Turn k → s.phase ≡ Exchange → slice_get s.requests k ≡ Some r → r.done ≡ false
        → P s (with_request k (polled (answers.answer r.request r.polls) r) s, sent_at_once s.client (sent_for answers r.request (answers.answer r.request r.polls)))
    pub takes : (o : List ℕ) (s : Slate) → e.kind ≡ Piece o → s.phase ≡ Open → P s (piece e.at e.secs o s)
    pub turns : (k : ℕ) (r : SlateRequest) (s : Slate) → e.kind ≡ Turn k → s.phase ≡ Open → slice_get s.requests k ≡ Some r → r.done ≡ false → P s (turn_request answers e.at k r.held r s, [])
    pub writes : (m : List ℕ) (ms : List (List ℕ)) (s : Slate) → s.phase ≡ Open → s.queue ≡ m ∷ ms → P s (written e.at m ms s)
    pub flushes : (why : Why) (m : List ℕ) (ms : List (List ℕ)) (s : Slate) → s.phase ≡ Flushing why → s.queue ≡ m ∷ ms → P s (flushed why m ms s)
    pub closes : (why : Why) (s : Slate) → may_close s.phase ≡ true → ClosesFor why e s → P s (close why s)
    pub winds : (why : Why) (m : List ℕ) (ms : List (List ℕ)) (s : Slate) → s.phase ≡ Open → s.queue ≡ m ∷ ms → P s (wind_up why (m ∷ ms) s)
    pub reconfigures : (dgram : Dgram) (stream : Stream) (s : Slate) → e.kind ≡ Reconfigure dgram stream → s.phase ≡ Open → P s (reconfigured stream.connection_config s, [])
    pub releases : (s : Slate) → e.kind ≡ Release → s.phase ≡ Closed → P s (released s, [])

  module _ (P : Slate → Effect → Type 0) (w : Rows P) where
    unused_case : (t : Slate → Effect) (s : Slate) → (s.conf.over ≡ false → P s (t s)) → (b : Bool) → s.conf.over ≡ b → P s (if b then (s, []) else t s)
    unused_case t s h true is = w.stays s
    unused_case t s h false is = h is

    on_unused : (k : EventKind) (s : Slate) → e.kind ≡ k → s.phase ≡ Unused → P s (unused_rule e k s)
    on_unused (Datagram addr o) s is p = unused_case (datagram e.client addr e.at e.secs o) s (w.exchanges addr o s is p) s.conf.over refl
    on_unused (Offer addr) s is p = unused_case (λ (t : Slate). (opened e.client addr e.at t, [])) s (w.opens addr s is p) s.conf.over refl
    on_unused _ s is p = w.stays s

    poll_case : (k : ℕ) (r : SlateRequest) (s : Slate) → e.kind ≡ Turn k → s.phase ≡ Exchange → slice_get s.requests k ≡ Some r → (b : Bool) → r.done ≡ b
        → P s (if b then (s, []) else (with_request k (polled (answers.answer r.request r.polls) r) s, sent_at_once s.client (sent_for answers r.request (answers.answer r.request r.polls))))
    poll_case k r s is p at true d = w.stays s
    poll_case k r s is p at false d = w.polls k r s is p at d

    exchange_turns : (k : ℕ) (x : Option SlateRequest) (s : Slate) → e.kind ≡ Turn k → s.phase ≡ Exchange → slice_get s.requests k ≡ x → P s (exchange_turn answers k x s)
    exchange_turns k None s is p at = w.stays s
    exchange_turns k (Some r) s is p at = poll_case k r s is p at r.done refl

    on_exchange : (k : EventKind) (s : Slate) → e.kind ≡ k → s.phase ≡ Exchange → P s (exchange_rule answers k s)
    on_exchange (Turn k) s is p = exchange_turns k (slice_get s.requests k) s is p refl
    on_exchange _ s is p = w.stays s

    turn_case : (k : ℕ) (r : SlateRequest) (s : Slate) → e.kind ≡ Turn k → s.phase ≡ Open → slice_get s.requests k ≡ Some r → (b : Bool) → r.done ≡ b → P s ((if b then s else turn_request answers e.at k r.held r s), [])
    turn_case k r s is p at true d = w.stays s
    turn_case k r s is p at false d = w.turns k r s is p at d

    open_turns : (k : ℕ) (x : Option SlateRequest) (s : Slate) → e.kind ≡ Turn k → s.phase ≡ Open → slice_get s.requests k ≡ x → P s (turn answers e.at k x s, [])
    open_turns k None s is p at = w.stays s
    open_turns k (Some r) s is p at = turn_case k r s is p at r.done refl

    -- a write that took too long closes
    late_case : (took : ℕ) (s : Slate) (t : Effect) → e.kind ≡ Write took → may_close s.phase ≡ true → P s t → (b : Bool) → took_too_long took s ≡ b → P s (if b then close WriteTimeout s else t)
    late_case took s t k c h true long = w.closes WriteTimeout s c (record { took = took; kind = k; late = grind (arith, nat_tests, long) })
    late_case took s t k c h false long = h

    open_writes : (took : ℕ) (q : List (List ℕ)) (s : Slate) → e.kind ≡ Write took → s.phase ≡ Open → s.queue ≡ q → P s (write e.at took q s)
    open_writes took [] s k p is = w.stays s
    open_writes took (m ∷ ms) s k p is = late_case took s (written e.at m ms s) k (ap may_close p) (w.writes m ms s p is) (took_too_long took s) refl

    open_winds : (why : Why) (q : List (List ℕ)) (s : Slate) → ClosesFor why e s → s.phase ≡ Open → s.queue ≡ q → P s (wind_up why q s)
    open_winds why [] s r p is = w.closes why s (ap may_close p) r
    open_winds why (m ∷ ms) s r p is = w.winds why m ms s p is

    tick_case : (s : Slate) → e.kind ≡ Tick → may_close s.phase ≡ true → (b : Bool) → (is_expired s.reset_at s.connection.idle_timeout e.at && not (list_any in_transaction s.requests)) ≡ b
        → P s (if b then close Idle s else (s, []))
    tick_case s k c true is = w.closes Idle s c (record { kind = k; late = grind (arith, nat_tests, is) })
    tick_case s k c false is = w.stays s

    on_open : (k : EventKind) (s : Slate) → e.kind ≡ k → s.phase ≡ Open → P s (open_rule answers e k s)
    on_open (Piece o) s is p = w.takes o s is p
    on_open (Turn k) s is p = open_turns k (slice_get s.requests k) s is p refl
    on_open (Write took) s is p = open_writes took s.queue s is p refl
    on_open Tick s is p = tick_case s is (ap may_close p) (is_expired s.reset_at s.connection.idle_timeout e.at && not (list_any in_transaction s.requests)) refl
    on_open End s is p = w.closes Ended s (ap may_close p) is
    on_open Fault s is p = w.closes By_fault s (ap may_close p) is
    on_open Close s is p = open_winds Commanded s.queue s (inl is) p refl
    on_open (Reconfigure dgram stream) s is p = w.reconfigures dgram stream s is p
    on_open Shutdown s is p = open_winds By_shutdown s.queue s (inl is) p refl
    on_open _ s is p = w.stays s

    flushing_writes : (why : Why) (took : ℕ) (q : List (List ℕ)) (s : Slate) → e.kind ≡ Write took → s.phase ≡ Flushing why → s.queue ≡ q → P s (flush why took q s)
    flushing_writes why took [] s k p is = w.stays s
    flushing_writes why took (m ∷ ms) s k p is = late_case took s (flushed why m ms s) k (ap may_close p) (w.flushes why m ms s p is) (took_too_long took s) refl

    on_flushing : (why : Why) (k : EventKind) (s : Slate) → e.kind ≡ k → s.phase ≡ Flushing why → P s (flushing_rule why k s)
    on_flushing why (Write took) s is p = flushing_writes why took s.queue s is p refl
    on_flushing why Fault s is p = w.closes By_fault s (ap may_close p) is
    on_flushing why _ s is p = w.stays s

    on_closed : (k : EventKind) (s : Slate) → e.kind ≡ k → s.phase ≡ Closed → P s (closed_rule k s)
    on_closed Release s is p = w.releases s is p
    on_closed _ s is p = w.stays s

    on_phase : (p : Phase) (s : Slate) → s.phase ≡ p → P s (in_phase answers e p s)
    on_phase Unused s p = on_unused e.kind s refl p
    on_phase Exchange s p = on_exchange e.kind s refl p
    on_phase Open s p = on_open e.kind s refl p
    on_phase (Flushing why) s p = on_flushing why e.kind s refl p
    on_phase Closed s p = on_closed e.kind s refl p

  -- of a slate with the configurations that the event leaves
  pub rows : (P : Slate → Effect → Type 0) → Rows P → (s : Slate) → P (with_conf (conf_rule e.kind s.conf) s) (rule answers e s)
  rows P w s = on_phase P w s.phase (with_conf (conf_rule e.kind s.conf) s) refl

  -- what each thing that a piece does shows, one after another; the first says nothing and keeps the state
  pub record Takes (P : Slate → Effect → Type 0) : Type 0 where
    pub stays : (s : Slate) → P s (s, [])
    pub goes : (s t : Slate) (u : Effect) → t.phase ≡ s.phase → P s (t, []) → P t u → P s u
    pub receives : (o : List ℕ) (s : Slate) → s.phase ≡ Open → P s (record s { received = s.received ++ o }, [])
    pub counts : (s : Slate) → s.phase ≡ Open → P s (record s { taken = s.taken + 1; reset_at = e.at }, [])
    pub asks : (f : List ℕ) (s : Slate) → s.phase ≡ Open → P s (record s { requests = s.requests ++ unpolled (request_of_frame s.connection.idle_timeout s.addr e.at e.secs f) ∷ [] }, [])
    pub queues : (m : List ℕ) (s : Slate) → s.phase ≡ Open → room e.at s ≡ true → P s (append_frame e.at m s, [])
    pub closes : (why : Why) (s : Slate) → may_close s.phase ≡ true → P s (close why s)

  module _ (P : Slate → Effect → Type 0) (w : Takes P) where
    -- without what was asked, and with it
    asked_case : (f : List ℕ) (s : Slate) → s.phase ≡ Open → (b : Bool) → P s ((if b then record s { requests = s.requests ++ unpolled (request_of_frame s.connection.idle_timeout s.addr e.at e.secs f) ∷ [] } else s), [])
    asked_case f s p true = w.asks f s p
    asked_case f s p false = w.stays s

    room_case : (m : List ℕ) (s : Slate) → s.phase ≡ Open → (b : Bool) → room e.at s ≡ b → P s ((if b then append_frame e.at m s else s), [])
    room_case m s p true is = w.queues m s p is
    room_case m s p false is = w.stays s

    frame_case : (f : List ℕ) (s : Slate) → s.phase ≡ Open → (b : Bool) → P s ((if b then enqueue_or_drop e.at (framed (wire (error_reply f 1))) s else take_request e.at e.secs f s), [])
    frame_case f s p true = room_case (framed (wire (error_reply f 1))) s p (room e.at s) refl
    frame_case f s p false = asked_case f s p (nat_lt (length s.requests) most_requests)

    frame_goes : (f : List ℕ) (s : Slate) → s.phase ≡ Open → P s (take_frame e.at e.secs f s, [])
    frame_goes f s p = let t = record s { taken = s.taken + 1; reset_at = e.at } in w.goes s t (take_frame e.at e.secs f s, []) refl (w.counts s p) (frame_case f t p (header_of f).qr)

    frames_go : (fs : List (List ℕ)) (s : Slate) → s.phase ≡ Open → P s (take_frames e.at e.secs fs s)
    frames_go [] s p = w.stays s
    frames_go (f ∷ fs) s p =
        let t = take_frame e.at e.secs f s in
        let stays = (takes e.at e.secs f s).phase in
        let more = w.goes s t (take_frames e.at e.secs fs t) stays (frame_goes f s p) (frames_go fs t (stays ∙ p)) in
        (elim (nat_lt (length f) header_size) as (λ b. P s (if b then close Short s else take_frames e.at e.secs fs t)) [ true ↦ w.closes Short s (ap may_close p) | false ↦ more ])

    pub piece_goes : (o : List ℕ) (s : Slate) → s.phase ≡ Open → P s (piece e.at e.secs o s)
    piece_goes o s p = let t = record s { received = s.received ++ o } in w.goes s t (piece e.at e.secs o s) refl (w.receives o s p) (frames_go (drop s.taken (frames (s.received ++ o))) t p)

  -- and what each thing that a turn does shows
  pub record Turns (P : Slate → Effect → Type 0) : Type 0 where
    pub stays : (s : Slate) → P s (s, [])
    pub goes : (s t : Slate) (u : Effect) → t.phase ≡ s.phase → P s (t, []) → P t u → P s u
    pub retimes : (a : Answer) (s : Slate) → s.phase ≡ Open → P s (retimed a s, [])
    pub sets : (k : ℕ) (r : SlateRequest) (s : Slate) → s.phase ≡ Open → P s (with_request k r s, [])
    pub queues : (m : List ℕ) (s : Slate) → s.phase ≡ Open → room e.at s ≡ true → P s (append_frame e.at m s, [])

  module _ (P : Slate → Effect → Type 0) (w : Turns P) where
    -- a request is set, and a frame of it is queued if there is room
    set_case : (k : ℕ) (m : List ℕ) (r : SlateRequest) (s u : Slate) → s.phase ≡ Open → P s (u, []) → (b : Bool) → room e.at s ≡ b → P s ((if b then append_frame e.at m (with_request k r s) else u), [])
    set_case k m r s u p h true is = w.goes s (with_request k r s) (append_frame e.at m (with_request k r s), []) refl (w.sets k r s p) (w.queues m (with_request k r s) p is)
    set_case k m r s u p h false is = h

    reply_goes : (k : ℕ) (x : Option Msg) (r : SlateRequest) (s : Slate) → s.phase ≡ Open → P s (queue_reply e.at k x r s, [])
    reply_goes k None r s p = w.sets k r s p
    reply_goes k (Some m) r s p = let f = framed (wire m) in set_case k f r s (with_request k (hold f r) s) p (w.sets k (hold f r) s p) (room e.at s) refl

    pub turn_goes : (k : ℕ) (x : Option (List ℕ)) (r : SlateRequest) (s : Slate) → s.phase ≡ Open → P s (turn_request answers e.at k x r s, [])
    turn_goes k None r s p =
        let a = answers.answer r.request r.polls in
        w.goes s (retimed a s) (poll_request answers e.at k r s, []) refl (w.retimes a s p) (reply_goes k (reply_to None r.request.octets a) (answered a r) (retimed a s) p)
    turn_goes k (Some m) r s p = set_case k m (record r { held = None }) s s p (w.stays s) (room e.at s) refl

  -- and all things
  pub record Walks (P : Slate → Effect → Type 0) : Type 0 where
    pub stays : (s : Slate) → P s (s, [])
    pub goes : (s t : Slate) (u : Effect) → t.phase ≡ s.phase → P s (t, []) → P t u → P s u
    pub exchanges : (addr : SocketAddr) (o : List ℕ) (s : Slate) → e.kind ≡ Datagram addr o → s.phase ≡ Unused → s.conf.over ≡ false → P s (datagram e.client addr e.at e.secs o s)
    pub opens : (addr : SocketAddr) (s : Slate) → e.kind ≡ Offer addr → s.phase ≡ Unused → s.conf.over ≡ false → P s (opened e.client addr e.at s, [])
    pub polls : (k : ℕ) (r : SlateRequest) (s : Slate) → e.kind ≡ Turn k → s.phase ≡ Exchange → slice_get s.requests k ≡ Some r → r.done ≡ false
        → P s (with_request k (polled (answers.answer r.request r.polls) r) s, sent_at_once s.client (sent_for answers r.request (answers.answer r.request r.polls)))
    pub receives : (o : List ℕ) (s : Slate) → s.phase ≡ Open → P s (record s { received = s.received ++ o }, [])
    pub counts : (s : Slate) → s.phase ≡ Open → P s (record s { taken = s.taken + 1; reset_at = e.at }, [])
    pub asks : (f : List ℕ) (s : Slate) → s.phase ≡ Open → P s (record s { requests = s.requests ++ unpolled (request_of_frame s.connection.idle_timeout s.addr e.at e.secs f) ∷ [] }, [])
    pub retimes : (a : Answer) (s : Slate) → s.phase ≡ Open → P s (retimed a s, [])
    pub sets : (k : ℕ) (r : SlateRequest) (s : Slate) → s.phase ≡ Open → P s (with_request k r s, [])
    pub queues : (m : List ℕ) (s : Slate) → s.phase ≡ Open → room e.at s ≡ true → P s (append_frame e.at m s, [])
    pub writes : (m : List ℕ) (ms : List (List ℕ)) (s : Slate) → s.phase ≡ Open → s.queue ≡ m ∷ ms → P s (written e.at m ms s)
    pub flushes : (why : Why) (m : List ℕ) (ms : List (List ℕ)) (s : Slate) → s.phase ≡ Flushing why → s.queue ≡ m ∷ ms → P s (flushed why m ms s)
    pub closes : (why : Why) (s : Slate) → may_close s.phase ≡ true → P s (close why s)
    pub winds : (why : Why) (m : List ℕ) (ms : List (List ℕ)) (s : Slate) → s.phase ≡ Open → s.queue ≡ m ∷ ms → P s (wind_up why (m ∷ ms) s)
    pub reconfigures : (dgram : Dgram) (stream : Stream) (s : Slate) → e.kind ≡ Reconfigure dgram stream → s.phase ≡ Open → P s (reconfigured stream.connection_config s, [])
    pub releases : (s : Slate) → e.kind ≡ Release → s.phase ≡ Closed → P s (released s, [])

  module _ (P : Slate → Effect → Type 0) (w : Walks P) where
    takes_of : Takes P
    takes_of = record { stays = w.stays; goes = w.goes; receives = w.receives; counts = w.counts; asks = w.asks; queues = w.queues; closes = w.closes }

    turns_of : Turns P
    turns_of = record { stays = w.stays; goes = w.goes; retimes = w.retimes; sets = w.sets; queues = w.queues }

    rows_of : Rows P
    rows_of = record {
      stays = w.stays;
      exchanges = w.exchanges;
      opens = w.opens;
      polls = w.polls;
      takes = λ o s is p. piece_goes P takes_of o s p;
      turns = λ k r s is p at d. turn_goes P turns_of k r.held r s p;
      writes = w.writes;
      flushes = w.flushes;
      closes = λ why s c r. w.closes why s c;
      winds = w.winds;
      reconfigures = w.reconfigures;
      releases = w.releases;
    }

  -- of a slate with the configurations that the event leaves
  pub walks : (P : Slate → Effect → Type 0) → Walks P → (s : Slate) → P (with_conf (conf_rule e.kind s.conf) s) (rule answers e s)
  walks P w s = rows P (rows_of P w) s
