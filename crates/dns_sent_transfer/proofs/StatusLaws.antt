-- How far each request of an open connection is: as its answers say. So what is dropped is outside of a transaction.
use Rattle.std.proofs.Common.{◌≡◌, ℕ, zero, suc, ◌+◌, ◌-◌, Bool, true, false, List, [], ◌∷◌, ◌++◌, length, drop, Option, Some, None, refl, ap, sym, subst, ◌∙◌, arith}
use Rattle.std.specs.Prelude.{◌&&◌, not, is_some, nat_lt, slice_get, slice_set, if◌then◌else◌}
use Rattle.dns_base.specs.Header.{header_of}
use Rattle.dns_base.specs.Msg.{Msg}
use Rattle.dns_base.specs.Wire.{wire}
use Rattle.dns_service.specs.ErrorReply.{error_reply}
use Rattle.dns_service.specs.Req.{Req}
use Rattle.dns_events.specs.declared.event.Event.{Event}
use Rattle.dns_events.specs.declared.event.EventKind.{EventKind}
use Rattle.dns_events.specs.declared.event.EventKind.TheVariants.{Turn}
use Rattle.dns_events.specs.declared.event.Why.{Why}
use Rattle.dns_events.specs.declared.event.Why.TheVariants.{Short}
use Rattle.dns_session.specs.Connections.{append_frame, close, enqueue_or_drop, flushed, is_in_transaction, room, take_frame, take_frames, take_request, written}
use Rattle.dns_session.specs.Frames.{framed, frames}
use Rattle.dns_session.specs.Heard.{answer_status}
use Rattle.dns_session.specs.Requests.{header_size, most_requests, request_of_frame, unpolled}
use Rattle.dns_session.specs.Rule.{rule}
use Rattle.dns_session.specs.Serving.{Serving}
use Rattle.dns_session.specs.Slate.{Slate, SlateRequest, Effect, Conf, Phase, Unused, Exchange, Open, Flushing, Closed, fresh}
use Rattle.dns_session.specs.Turns.{answered, hold, polled, queue_reply, reply_to, retimed, sent_for, turn_request, with_request}
use Rattle.dns_session.proofs.Walks.{Rows, rows}
use Rattle.dns_core.specs.Trails.{Origin, Trail, drops, dropped_by, dropped_of, is_open, no_trail, origin, poll_of, trail_after, trailed}
use Rattle.dns_transfer.specs.Transfers.{status_behind}

module _ (answers : Serving) where
  -- a request is as far as its answers say
  abbrev pub HasStatus : SlateRequest → Type 0
  HasStatus r = r.status ≡ status_behind (answers.answer r.request) r.polls

  abbrev pub HaveStatus : List SlateRequest → Type 0
  HaveStatus rs = (k : ℕ) (r : SlateRequest) → slice_get rs k ≡ Some r → HasStatus r

  -- and so are those of an open connection, which begins with none
  abbrev pub Stands : Phase → List SlateRequest → Type 0
  Stands Unused rs = rs ≡ []
  Stands Exchange rs = Unit {0}
  Stands Open rs = HaveStatus rs
  Stands (Flushing why) rs = Unit {0}
  Stands Closed rs = Unit {0}

  pub record OpenStands (s : Slate) : Type 0 where
    pub phase : s.phase ≡ Open
    pub requests : HaveStatus s.requests

  abbrev pub EffectStands : Effect → Type 0
  EffectStands u = Stands u.0.phase u.0.requests

  open_stands : (s : Slate) → s.phase ≡ Open → Stands s.phase s.requests → OpenStands s
  open_stands s p h = record { phase = p; requests = subst (λ (x : Phase). Stands x s.requests) p h }

  stands_open : (s : Slate) → OpenStands s → Stands s.phase s.requests
  stands_open s h = subst (λ (x : Phase). Stands x s.requests) (sym h.phase) h.requests

  -- ---- lists of requests

  none_status : (rs : List SlateRequest) → rs ≡ [] → HaveStatus rs
  none_status rs e k r at = absurd (let n : None ≡ Some r = sym (ap (λ (xs : List SlateRequest). slice_get xs k) e) ∙ at in cc)

  set_status : (rs : List SlateRequest) (k : ℕ) (r new : SlateRequest) → slice_get rs k ≡ Some r → HasStatus new → HaveStatus rs → HaveStatus (slice_set rs k new)
  set_status [] k r new at n h j q e = absurd (cc)
  set_status (x ∷ rs) zero r new at n h zero q e = let i : new ≡ q = cc in subst HasStatus i n
  set_status (x ∷ rs) zero r new at n h (suc j) q e = h (suc j) q e
  set_status (x ∷ rs) (suc k) r new at n h zero q e = h zero q e
  set_status (x ∷ rs) (suc k) r new at n h (suc j) q e = set_status rs k r new at n (λ i p f. h (suc i) p f) j q e

  push_status : (rs : List SlateRequest) (x : SlateRequest) → HasStatus x → HaveStatus rs → HaveStatus (rs ++ x ∷ [])
  push_status [] x n h zero q e = let i : x ≡ q = cc in subst HasStatus i n
  push_status [] x n h (suc j) q e = absurd (cc)
  push_status (y ∷ rs) x n h zero q e = h zero q e
  push_status (y ∷ rs) x n h (suc j) q e = push_status rs x n (λ i p f. h (suc i) p f) j q e

  -- ---- a piece

  request_step : (b : Bool) (q : Req (Unit {0})) (s : Slate) → OpenStands s → OpenStands (if b then record s { requests = s.requests ++ unpolled q ∷ [] } else s)
  request_step true q s h = record { phase = h.phase; requests = push_status s.requests (unpolled q) refl h.requests }
  request_step false q s h = h

  drop_step : (b : Bool) (at : ℕ) (o : List ℕ) (s : Slate) → OpenStands s → OpenStands (if b then append_frame at o s else s)
  drop_step true at o s h = record { phase = h.phase; requests = h.requests }
  drop_step false at o s h = h

  frame_step : (b : Bool) (at secs : ℕ) (f : List ℕ) (s : Slate) → OpenStands s → OpenStands (if b then enqueue_or_drop at (framed (wire (error_reply f 1))) s else take_request at secs f s)
  frame_step true at secs f s h = drop_step (room at s) at (framed (wire (error_reply f 1))) s h
  frame_step false at secs f s h = request_step (nat_lt (length s.requests) most_requests) (request_of_frame s.connection.idle_timeout s.addr at secs f) s h

  frame_stands : (at secs : ℕ) (f : List ℕ) (s : Slate) → OpenStands s → OpenStands (take_frame at secs f s)
  frame_stands at secs f s h = frame_step (header_of f).qr at secs f (record s { taken = s.taken + 1; reset_at = at }) (record { phase = h.phase; requests = h.requests })

  frames_step : (b : Bool) (at secs : ℕ) (f : List ℕ) (fs : List (List ℕ)) (s : Slate) → EffectStands (take_frames at secs fs (take_frame at secs f s)) → EffectStands (if b then close Short s else take_frames at secs fs (take_frame at secs f s))
  frames_step true at secs f fs s h = tt
  frames_step false at secs f fs s h = h

  frames_stand : (at secs : ℕ) (fs : List (List ℕ)) (s : Slate) → OpenStands s → EffectStands (take_frames at secs fs s)
  frames_stand at secs [] s h = stands_open s h
  frames_stand at secs (f ∷ fs) s h = frames_step (nat_lt (length f) header_size) at secs f fs s (frames_stand at secs fs (take_frame at secs f s) (frame_stands at secs f s h))

  -- ---- a turn

  heard : (r : SlateRequest) → HasStatus r → HasStatus (answered (answers.answer r.request r.polls) r)
  heard r h =
      let e : suc r.polls ≡ r.polls + 1 = omega arith in
      ap (answer_status (answers.answer r.request r.polls)) h ∙ ap (status_behind (answers.answer r.request)) e

  hold_status : (b : Bool) (m : List ℕ) (r : SlateRequest) → HasStatus r → HasStatus (if b then record r { held = Some m } else r)
  hold_status true m r h = h
  hold_status false m r h = h

  enqueue_step : (b : Bool) (at k : ℕ) (m : List ℕ) (r q : SlateRequest) (s : Slate) → slice_get s.requests k ≡ Some q → HasStatus r → OpenStands s → OpenStands (if b then append_frame at m (with_request k r s) else with_request k (hold m r) s)
  enqueue_step true at k m r q s here n h = record { phase = h.phase; requests = set_status s.requests k q r here n h.requests }
  enqueue_step false at k m r q s here n h = record { phase = h.phase; requests = set_status s.requests k q (hold m r) here (hold_status (is_in_transaction r.status) m r n) h.requests }

  queue_stands : (at k : ℕ) (x : Option Msg) (r q : SlateRequest) (s : Slate) → slice_get s.requests k ≡ Some q → HasStatus r → OpenStands s → OpenStands (queue_reply at k x r s)
  queue_stands at k None r q s here n h = record { phase = h.phase; requests = set_status s.requests k q r here n h.requests }
  queue_stands at k (Some m) r q s here n h = enqueue_step (room at s) at k (framed (wire m)) r q s here n h

  held_step : (b : Bool) (at k : ℕ) (m : List ℕ) (r : SlateRequest) (s : Slate) → slice_get s.requests k ≡ Some r → OpenStands s → OpenStands (if b then append_frame at m (with_request k (record r { held = None }) s) else s)
  held_step true at k m r s here h = record { phase = h.phase; requests = set_status s.requests k r (record r { held = None }) here (h.requests k r here) h.requests }
  held_step false at k m r s here h = h

  turn_stands : (at k : ℕ) (x : Option (List ℕ)) (r : SlateRequest) (s : Slate) → slice_get s.requests k ≡ Some r → OpenStands s → OpenStands (turn_request answers at k x r s)
  turn_stands at k None r s here h =
      let a = answers.answer r.request r.polls in
      queue_stands at k (reply_to None r.request.octets a) (answered a r) r (retimed a s) here (heard r (h.requests k r here)) (record { phase = h.phase; requests = h.requests })
  turn_stands at k (Some m) r s here h = held_step (room at s) at k m r s here h

  -- ---- writes

  written_stands : (at : ℕ) (m : List ℕ) (ms : List (List ℕ)) (s : Slate) → Stands s.phase s.requests → EffectStands (written at m ms s)
  written_stands at m [] s h = h
  written_stands at m (n ∷ ms) s h = h

  flushed_stands : (why : Why) (m : List ℕ) (ms : List (List ℕ)) (s : Slate) → Stands s.phase s.requests → EffectStands (flushed why m ms s)
  flushed_stands why m [] s h = tt
  flushed_stands why m (n ∷ ms) s h = h

  -- ---- all events

  abbrev Keeps : Slate → Effect → Type 0
  Keeps s u = Stands s.phase s.requests → EffectStands u

  keeps : (e : Event) → Rows answers e (λ s u. Keeps s u)
  keeps e = record {
    stays = λ s h. h;
    exchanges = λ addr o s is p over h. tt;
    opens = λ addr s is p over h. none_status s.requests (subst (λ (x : Phase). Stands x s.requests) p h);
    polls = λ k r s is p at d h. subst (λ (x : Phase). Stands x (slice_set s.requests k (polled (answers.answer r.request r.polls) r))) (sym p) tt;
    takes = λ o s is p h. frames_stand e.at e.secs (drop s.taken (frames (s.received ++ o))) (record s { received = s.received ++ o }) (record { phase = p; requests = (open_stands s p h).requests });
    turns = λ k r s is p at d h. stands_open (turn_request answers e.at k r.held r s) (turn_stands e.at k r.held r s at (open_stands s p h));
    writes = λ m ms s p is h. written_stands e.at m ms s h;
    flushes = λ why m ms s p is h. flushed_stands why m ms s h;
    closes = λ why s c r h. tt;
    winds = λ why m ms s p is h. tt;
    reconfigures = λ dgram stream s is p h. h;
    releases = λ s is p h. h;
  }

  rule_stands : (e : Event) (s : Slate) → Stands s.phase s.requests → EffectStands (rule answers e s)
  rule_stands e s h = rows answers e (λ (t : Slate) (u : Effect). Keeps t u) (keeps e) s h

  -- ---- what is dropped

  -- the reply to a poll is outside of a transaction, once its feedback was heard
  abbrev pub IsOutside : Origin → Type 0
  IsOutside m = is_in_transaction (status_behind (answers.answer m.asked) (suc m.poll)) ≡ false

  abbrev pub AreOutside : List Origin → Type 0
  AreOutside ds = (i : ℕ) (m : Origin) → slice_get ds i ≡ Some m → IsOutside m

  none_outside : AreOutside []
  none_outside i m at = absurd (cc)

  outside_append : (xs ys : List Origin) → AreOutside xs → AreOutside ys → AreOutside (xs ++ ys)
  outside_append [] ys h g i m at = g i m at
  outside_append (x ∷ xs) ys h g zero m at = h zero m at
  outside_append (x ∷ xs) ys h g (suc i) m at = outside_append xs ys (λ j n e. h (suc j) n e) g i m at

  one_outside : (x : Origin) → IsOutside x → AreOutside (x ∷ [])
  one_outside x h zero m at = let i : x ≡ m = cc in subst IsOutside i h
  one_outside x h (suc i) m at = absurd (cc)

  drops_case : (done held some space through : Bool) → (not done && (not held && (some && (not space && not through)))) ≡ true → (held ≡ false) × (through ≡ false)
  drops_case true held some space through h = absurd (cc)
  drops_case false true some space through h = absurd (cc)
  drops_case false false false space through h = absurd (cc)
  drops_case false false true true through h = absurd (cc)
  drops_case false false true false true h = absurd (cc)
  drops_case false false true false false h = (refl, refl)

  turn_drop : (at k : ℕ) (r : SlateRequest) (s : Slate) (b : Bool) → drops answers at r s ≡ b → HasStatus r → AreOutside (if b then origin k r ∷ [] else [])
  turn_drop at k r s true e n =
      let a = answers.answer r.request r.polls in
      let c = drops_case r.done (is_some r.held) (is_some (sent_for answers r.request a)) (room at s) (is_in_transaction (answered a r).status) e in
      let o : origin k r ≡ poll_of k r r.polls = ap (λ (b : Bool). poll_of k r (if b then r.polls - 1 else r.polls)) c.0 in
      let outside : IsOutside (poll_of k r r.polls) = ap (λ x. is_in_transaction (answer_status a x)) (sym n) ∙ c.1 in
      one_outside (origin k r) (subst IsOutside (sym o) outside)
  turn_drop at k r s false e n = none_outside

  request_drop : (at k : ℕ) (s : Slate) (x : Option SlateRequest) → slice_get s.requests k ≡ x → HaveStatus s.requests → AreOutside (dropped_of answers at k x s)
  request_drop at k s None e h = none_outside
  request_drop at k s (Some r) e h = turn_drop at k r s (drops answers at r s) refl (h k r e)

  phase_drop : (at k : ℕ) (s : Slate) (p : Phase) → Stands p s.requests → AreOutside (if is_open p then dropped_of answers at k (slice_get s.requests k) s else [])
  phase_drop at k s Unused h = none_outside
  phase_drop at k s Exchange h = none_outside
  phase_drop at k s Open h = request_drop at k s (slice_get s.requests k) refl h
  phase_drop at k s (Flushing why) h = none_outside
  phase_drop at k s Closed h = none_outside

  kind_drop : (at : ℕ) (k : EventKind) (s : Slate) → Stands s.phase s.requests → AreOutside (dropped_by answers at k s)
  kind_drop at (Turn k) s h = phase_drop at k s s.phase h
  kind_drop at k s h = none_outside

  outside_after : (es : List Event) (s : Slate) (t : Trail) → Stands s.phase s.requests → AreOutside t.dropped → AreOutside (trail_after answers s t es).dropped
  outside_after [] s t h g = g
  outside_after (e ∷ es) s t h g = outside_after es (rule answers e s).0 (trailed answers e s t) (rule_stands e s h) (outside_append t.dropped (dropped_by answers e.at e.kind s) g (kind_drop e.at e.kind s h))

  -- each reply that was dropped was outside of a transaction
  pub dropped_are_outside : (c : Conf) (es : List Event) → AreOutside (trail_after answers (fresh c) no_trail es).dropped
  dropped_are_outside c es = outside_after es (fresh c) no_trail refl none_outside
