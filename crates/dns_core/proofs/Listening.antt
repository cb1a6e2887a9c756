-- What a connection keeps of what it was asked: each of its requests was asked, and each frame that it holds or queues is a reply.
use Rattle.std.proofs.Common.{◌≡◌, ℕ, zero, suc, ◌+◌, ◌⊎◌, inl, inr, true, false, List, [], ◌∷◌, ◌++◌, length, Option, Some, None, refl, ◌∙◌}
use Rattle.std.specs.Prelude.{IfSome, if◌then◌else◌, nat_lt, slice_get}
use Rattle.std.specs.List.{All}
use Rattle.std.proofs.lemmas.List.Elements.{All-head, All-tail, All-push, All-set, All-weaker}
use Rattle.dns_base.specs.Header.{header_of}
use Rattle.dns_base.specs.Msg.{Msg}
use Rattle.dns_base.specs.Wire.{wire}
use Rattle.dns_service.specs.ErrorReply.{error_reply}
use Rattle.dns_service.specs.Req.{Req}
use Rattle.dns_events.specs.declared.event.Why.TheVariants.{Short}
use Rattle.dns_session.specs.Connections.{append_frame, close, enqueue_or_drop, room, is_in_transaction, take_frame, take_frames, take_request}
use Rattle.dns_session.specs.Frames.{framed}
use Rattle.dns_session.specs.Requests.{unpolled, header_size, most_requests, request_of_frame}
use Rattle.dns_session.specs.Serving.{Serving}
use Rattle.dns_session.specs.Slate.{Slate, SlateRequest, Effect}
use Rattle.dns_session.specs.Turns.{answered, hold, enqueue, queue_held, queue_reply, reply_to, retimed, turn, turn_request, with_request}
use Rattle.dns_core.specs.ReplyTo.{Responds}
use Rattle.dns_core.proofs.Replied.{refused_responds}
use Rattle.dns_session.proofs.Taken.{takes}

-- the element at a place
pub all_at : {X : Type 0} (P : X → Type 0) (xs : List X) (k : ℕ) → All P xs → IfSome (slice_get xs k) P
all_at P [] k h = tt
all_at P (x ∷ xs) zero h = All-head P x xs h
all_at P (x ∷ xs) (suc k) h = all_at P xs k (All-tail P x xs h)

some_weaker : {X : Type 0} (P Q : X → Type 0) (x : Option X) → ((y : X) → P y → Q y) → IfSome x P → IfSome x Q
some_weaker P Q None f h = tt
some_weaker P Q (Some y) f h = f y h

-- by what it means that octets were asked
module _ (Asked : List ℕ → Type 0) where
  -- a frame is a reply to such octets
  pub record RepliesTo (o : List ℕ) : Type 0 where
    pub asks : List ℕ
    pub message : Msg
    pub asked : Asked asks
    pub is : o ≡ framed (wire message)
    pub responds : Responds asks message

  pub record Asks (r : SlateRequest) : Type 0 where
    pub asked : Asked r.request.octets
    pub held : IfSome r.held RepliesTo

  pub record Listens (s : Slate) : Type 0 where
    pub requests : All Asks s.requests
    pub queue : All RepliesTo s.queue

  -- it goes on so, with what it received
  pub record GoesOn (s u : Slate) : Type 0 where
    pub phase : u.phase ≡ s.phase
    pub received : u.received ≡ s.received
    pub listens : Listens u

  -- and after a piece, or is closed
  abbrev pub Takes : Slate → Effect → Type 0
  Takes s t = (GoesOn s t.0 × (t.1 ≡ [])) ⊎ ((u : Slate) × (t ≡ close Short u))

  reply : (o : List ℕ) (m : Msg) → Asked o → Responds o m → RepliesTo (framed (wire m))
  reply o m a h = record { asks = o; message = m; asked = a; is = refl; responds = h }

  -- ---- a piece

  enqueue_listens : (at : ℕ) (m : List ℕ) (s : Slate) → RepliesTo m → Listens s → Listens (enqueue_or_drop at m s)
  enqueue_listens at m s r h =
      (elim (room at s) as (λ b. Listens (if b then append_frame at m s else s)) [
        | true ↦ record { requests = h.requests; queue = All-push RepliesTo s.queue m h.queue r }
        | false ↦ h
      ])

  request_listens : (at secs : ℕ) (f : List ℕ) (s : Slate) → Asked f → Listens s → Listens (take_request at secs f s)
  request_listens at secs f s c h =
      let r = unpolled (request_of_frame s.connection.idle_timeout s.addr at secs f) in
      (elim (nat_lt (length s.requests) most_requests) as (λ b. Listens (if b then record s { requests = s.requests ++ r ∷ [] } else s)) [
        | true ↦ record { requests = All-push Asks s.requests r h.requests (record { asked = c; held = tt }); queue = h.queue }
        | false ↦ h
      ])

  frame_listens : (at secs : ℕ) (f : List ℕ) (s : Slate) → Asked f → Listens s → Listens (take_frame at secs f s)
  frame_listens at secs f s c h =
      let t : Slate = record s { taken = s.taken + 1; reset_at = at } in
      let g : Listens t = record { requests = h.requests; queue = h.queue } in
      (elim (header_of f).qr as (λ b. Listens (if b then enqueue_or_drop at (framed (wire (error_reply f 1))) t else take_request at secs f t)) [
        | true ↦ enqueue_listens at (framed (wire (error_reply f 1))) t (reply f (error_reply f 1) c (refused_responds f None 1)) g
        | false ↦ request_listens at secs f t c g
      ])

  later_takes : (s t : Slate) (effect : Effect) → t.phase ≡ s.phase → t.received ≡ s.received → Takes t effect → Takes s effect
  later_takes s t effect p r h = elim h [ inl g ↦ inl (record { phase = g.0.phase ∙ p; received = g.0.received ∙ r; listens = g.0.listens }, g.1) | inr c ↦ inr c ]

  pub take_listens : (at secs : ℕ) (fs : List (List ℕ)) (s : Slate) → All Asked fs → Listens s → Takes s (take_frames at secs fs s)
  take_listens at secs [] s c h = inl (record { phase = refl; received = refl; listens = h }, refl)
  take_listens at secs (f ∷ fs) s c h =
      let u = take_frame at secs f s in
      let k = takes at secs f s in
      let more = later_takes s u (take_frames at secs fs u) k.phase k.received (take_listens at secs fs u (All-tail Asked f fs c) (frame_listens at secs f s (All-head Asked f fs c) h)) in
      (elim (nat_lt (length f) header_size) as (λ b. let effect : Effect = (if b then close Short s else take_frames at secs fs u) in Takes s effect) [ true ↦ inr (s, refl) | false ↦ more ])

  -- ---- a request turns

  set_on : (k : ℕ) (r : SlateRequest) (s : Slate) → Asks r → Listens s → GoesOn s (with_request k r s)
  set_on k r s a h = record { phase = refl; received = refl; listens = record { requests = All-set Asks s.requests k r a h.requests; queue = h.queue } }

  append_on : (at k : ℕ) (m : List ℕ) (r : SlateRequest) (s : Slate) → RepliesTo m → Asks r → Listens s → GoesOn s (append_frame at m (with_request k r s))
  append_on at k m r s p a h = record { phase = refl; received = refl; listens = record { requests = All-set Asks s.requests k r a h.requests; queue = All-push RepliesTo s.queue m h.queue p } }

  hold_asks : (m : List ℕ) (r : SlateRequest) → RepliesTo m → Asks r → Asks (hold m r)
  hold_asks m r p a = (elim (is_in_transaction r.status) as (λ b. Asks (if b then record r { held = Some m } else r)) [ true ↦ record { asked = a.asked; held = p } | false ↦ a ])

  queue_on : (at k : ℕ) (m : List ℕ) (r : SlateRequest) (s : Slate) → RepliesTo m → Asks r → Listens s → GoesOn s (enqueue at k m r s)
  queue_on at k m r s p a h =
      (elim (room at s) as (λ b. GoesOn s (if b then append_frame at m (with_request k r s) else with_request k (hold m r) s)) [ true ↦ append_on at k m r s p a h | false ↦ set_on k (hold m r) s (hold_asks m r p a) h ])

  reply_on : (at k : ℕ) (x : Option Msg) (r : SlateRequest) (s : Slate) → IfSome x (Responds r.request.octets) → Asks r → Listens s → GoesOn s (queue_reply at k x r s)
  reply_on at k None r s p a h = set_on k r s a h
  reply_on at k (Some m) r s p a h = queue_on at k (framed (wire m)) r s (reply r.request.octets m a.asked p) a h

  held_on : (at k : ℕ) (m : List ℕ) (r : SlateRequest) (s : Slate) → RepliesTo m → Asks r → Listens s → GoesOn s (queue_held at k m r s)
  held_on at k m r s p a h =
      (elim (room at s) as (λ b. GoesOn s (if b then append_frame at m (with_request k (record r { held = None }) s) else s)) [
        | true ↦ append_on at k m (record r { held = None }) s p (record { asked = a.asked; held = tt }) h
        | false ↦ record { phase = refl; received = refl; listens = h }
      ])

  module _ (answers : Serving) (respond : (n : Option ℕ) (r : Req (Unit {0})) (k : ℕ) → IfSome (reply_to n r.octets (answers.answer r k)) (Responds r.octets)) where
    request_on : (at k : ℕ) (x : Option (List ℕ)) (r : SlateRequest) (s : Slate) → IfSome x RepliesTo → Asks r → Listens s → GoesOn s (turn_request answers at k x r s)
    request_on at k None r s p a h =
        let y = answers.answer r.request r.polls in
        let g = reply_on at k (reply_to None r.request.octets y) (answered y r) (retimed y s) (respond None r.request r.polls) (record { asked = a.asked; held = a.held }) (record { requests = h.requests; queue = h.queue }) in
        record { phase = g.phase; received = g.received; listens = g.listens }
    request_on at k (Some m) r s p a h = held_on at k m r s p a h

    turn_case : (at k : ℕ) (x : Option SlateRequest) (s : Slate) → IfSome x Asks → Listens s → GoesOn s (turn answers at k x s)
    turn_case at k None s a h = record { phase = refl; received = refl; listens = h }
    turn_case at k (Some r) s a h = (elim r.done as (λ b. GoesOn s (if b then s else turn_request answers at k r.held r s)) [ true ↦ record { phase = refl; received = refl; listens = h } | false ↦ request_on at k r.held r s a.held a h ])

    pub turn_listens : (at k : ℕ) (s : Slate) → Listens s → GoesOn s (turn answers at k (slice_get s.requests k) s)
    turn_listens at k s h = turn_case at k (slice_get s.requests k) s (all_at Asks s.requests k h.requests) h

-- ---- what was asked by one meaning was asked by another

pub replies_weaker : (A B : List ℕ → Type 0) → ((o : List ℕ) → A o → B o) → (o : List ℕ) → RepliesTo A o → RepliesTo B o
replies_weaker A B f o h = record { asks = h.asks; message = h.message; asked = f h.asks h.asked; is = h.is; responds = h.responds }

asks_weaker : (A B : List ℕ → Type 0) → ((o : List ℕ) → A o → B o) → (r : SlateRequest) → Asks A r → Asks B r
asks_weaker A B f r h = record { asked = f r.request.octets h.asked; held = some_weaker (RepliesTo A) (RepliesTo B) r.held (replies_weaker A B f) h.held }

pub queue_weaker : (A B : List ℕ → Type 0) → ((o : List ℕ) → A o → B o) → (os : List (List ℕ)) → All (RepliesTo A) os → All (RepliesTo B) os
queue_weaker A B f os h = All-weaker (RepliesTo A) (RepliesTo B) (replies_weaker A B f) os h

pub listens_weaker : (A B : List ℕ → Type 0) → ((o : List ℕ) → A o → B o) → (s : Slate) → Listens A s → Listens B s
listens_weaker A B f s h = record { requests = All-weaker (Asks A) (Asks B) (asks_weaker A B f) s.requests h.requests; queue = queue_weaker A B f s.queue h.queue }
