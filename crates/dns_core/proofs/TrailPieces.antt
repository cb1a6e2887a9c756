-- A piece of a connection's stream keeps its trail: its frames make requests, or are refused.
use Rattle.std.proofs.Common.{◌≡◌, ℕ, ◌+◌, ◌<◌, ⊎_elim, true, false, Bool, List, [], ◌∷◌, ◌++◌, length, drop, replicate, Option, Some, None, refl, ap, sym, ◌∙◌, subst, append_assoc, arith}
use Rattle.std.specs.Prelude.{nat_lt, slice_get, if◌then◌else◌}
use Rattle.std.specs.List.{All}
use Rattle.std.proofs.lemmas.List.{append-nil}
use Rattle.std.proofs.lemmas.List.Elements.{All-nil, All-push}
use Rattle.dns_base.specs.Header.{header_of}
use Rattle.dns_base.specs.Wire.{wire}
use Rattle.dns_service.specs.ErrorReply.{error_reply}
use Rattle.dns_service.specs.Req.{Req}
use Rattle.dns_service.specs.Transport.{is_stream}
use Rattle.dns_events.specs.declared.event.Output.{Output}
use Rattle.dns_events.specs.declared.event.Why.TheVariants.{Short}
use Rattle.dns_session.specs.Connections.{append_frame, close, enqueue_or_drop, piece, room, take_frame, take_frames, take_request}
use Rattle.dns_session.specs.Frames.{frames, framed}
use Rattle.dns_session.specs.Requests.{unpolled, header_size, most_requests, request_of_frame}
use Rattle.dns_session.specs.Serving.{Serving}
use Rattle.dns_session.specs.Slate.{Slate, SlateRequest, Effect, Phase, Open}
use Rattle.dns_core.specs.Trails.{Origin, Trail, IsRising, in_order, polls_of}
use Rattle.dns_core.proofs.Origins.{FrameRefuses, polls_none, push_cases, queued_none}
use Rattle.dns_core.proofs.Trailing.{Asks, AsksAll, AsksAt, Has, Keeps, Kept, asks_on, closes, joined_on, joins, polls_joined, waits_with}

module _ (answers : Serving) where
  -- a request that was not polled yet
  pub asks_new : (stream : Bool) (k : ℕ) (q : Req (Unit {0})) (t : Trail) → is_stream q.transport ≡ stream → polls_of k (in_order t) ≡ [] → Asks answers stream k (unpolled q) t
  asks_new stream k q t is none = record {
    transport = is;
    unheld = λ e. refl;
    below = subst (All (λ n. n < 0)) (sym none) (All-nil (λ n. n < 0));
    held = λ m e. cc;
    somewhere = λ n lt ne. absurd (omega arith);
  }

  push_case : (stream : Bool) (rs : List SlateRequest) (q : Req (Unit {0})) (t : Trail) → is_stream q.transport ≡ stream → AsksAll answers stream rs t → (k : ℕ) → AsksAt answers stream k (slice_get (rs ++ unpolled q ∷ []) k) t
  push_case stream rs q t is h k =
      ⊎_elim
      (λ (old : slice_get (rs ++ unpolled q ∷ []) k ≡ slice_get rs k). subst (λ (x : Option SlateRequest). AsksAt answers stream k x t) (sym old) (h k))
      (λ (new : (slice_get (rs ++ unpolled q ∷ []) k ≡ Some (unpolled q)) × (slice_get rs k ≡ None)).
      subst (λ (x : Option SlateRequest). AsksAt answers stream k x t) (sym new.0) (asks_new stream k q t is (subst (λ (x : Option SlateRequest). AsksAt answers stream k x t) new.1 (h k))))
      (push_cases rs (unpolled q) k)

  pub asks_push : (stream : Bool) (rs : List SlateRequest) (q : Req (Unit {0})) (t : Trail) → is_stream q.transport ≡ stream → AsksAll answers stream rs t → AsksAll answers stream (rs ++ unpolled q ∷ []) t
  asks_push stream rs q t is h = push_case stream rs q t is h

  -- a connection after some frames: its queue has more, which refuse responses, and its requests are those that were made
  record Takes (front : List (List ℕ)) (t : Trail) (s : Slate) : Type 0 where
    phase : s.phase ≡ Open
    news : List (List ℕ)
    queue : s.queue ≡ front ++ news
    refuse : All FrameRefuses news
    asks : AsksAll answers true s.requests t

  request_takes : (q : List (List ℕ)) (t : Trail) (at secs : ℕ) (f : List ℕ) (s : Slate) → Takes q t s → Takes q t (take_request at secs f s)
  request_takes q t at secs f s h =
      let r = request_of_frame s.connection.idle_timeout s.addr at secs f in
      (elim (nat_lt (length s.requests) most_requests) as (λ b. Takes q t (if b then record s { requests = s.requests ++ unpolled r ∷ [] } else s)) [
        | true ↦ record { phase = h.phase; news = h.news; queue = h.queue; refuse = h.refuse; asks = asks_push true s.requests r t refl h.asks }
        | false ↦ h
      ])

  refused_takes : (q : List (List ℕ)) (t : Trail) (at : ℕ) (m : List ℕ) (s : Slate) → FrameRefuses m → Takes q t s → Takes q t (enqueue_or_drop at m s)
  refused_takes q t at m s refuses h =
      (elim (room at s) as (λ b. Takes q t (if b then append_frame at m s else s)) [
        | true ↦ record {
          phase = h.phase;
          news = h.news ++ m ∷ [];
          queue = ap (λ (ms : List (List ℕ)). ms ++ m ∷ []) h.queue ∙ append_assoc q h.news (m ∷ []);
          refuse = All-push FrameRefuses h.news m h.refuse refuses;
          asks = h.asks;
        }
        | false ↦ h
      ])

  frame_case : (q : List (List ℕ)) (t : Trail) (at secs : ℕ) (f : List ℕ) (s : Slate) (b : Bool) → (header_of f).qr ≡ b → Takes q t s → Takes q t (if b then enqueue_or_drop at (framed (wire (error_reply f 1))) s else take_request at secs f s)
  frame_case q t at secs f s true qr h = refused_takes q t at (framed (wire (error_reply f 1))) s (f, qr, refl) h
  frame_case q t at secs f s false qr h = request_takes q t at secs f s h

  frame_takes : (q : List (List ℕ)) (t : Trail) (at secs : ℕ) (f : List ℕ) (s : Slate) → Takes q t s → Takes q t (take_frame at secs f s)
  frame_takes q t at secs f s h =
      let u : Slate = record s { taken = s.taken + 1; reset_at = at } in
      let g : Takes q t u = record { phase = h.phase; news = h.news; queue = h.queue; refuse = h.refuse; asks = h.asks } in
      frame_case q t at secs f u (header_of f).qr refl g

  none_polls : (k n : ℕ) (ds : List Origin) (t : Trail) → polls_of k (in_order (waits_with (replicate n None) ds t)) ≡ polls_of k (in_order t)
  none_polls k n ds t = polls_joined k (replicate n None) ds t ∙ ap (λ (ns : List ℕ). polls_of k (in_order t) ++ ns) (polls_none k n) ∙ append-nil (polls_of k (in_order t))

  -- what is queued refuses responses
  taken_keeps : (s u : Slate) (t : Trail) (os : List Output) (ds : List Origin) → Kept answers s t os → Takes s.queue t u → Keeps answers (u, []) None ds t os
  taken_keeps s u t os ds h g =
      let n = length g.news in
      let v = waits_with (replicate n None) ds t in
      joins answers s u t os g.news None ds h g.queue (queued_none answers g.news g.refuse)
      (λ k. subst (λ (ns : List ℕ). IsRising (polls_of k (in_order t) ++ ns)) (sym (polls_none k n)) (subst IsRising (sym (append-nil (polls_of k (in_order t)))) (h.order k)))
      (subst (λ (p : Phase). Has answers p u.requests v) (sym g.phase) (λ k. asks_on answers true k (slice_get u.requests k) t v (none_polls k n ds t) (joined_on (replicate n None) ds t) (g.asks k)))

  take_keeps : (s : Slate) (t : Trail) (os : List Output) (ds : List Origin) → Kept answers s t os → (at secs : ℕ) (fs : List (List ℕ)) (u : Slate) → Takes s.queue t u → Keeps answers (take_frames at secs fs u) None ds t os
  take_keeps s t os ds h at secs [] u g = taken_keeps s u t os ds h g
  take_keeps s t os ds h at secs (f ∷ fs) u g =
      let more = take_keeps s t os ds h at secs fs (take_frame at secs f u) (frame_takes s.queue t at secs f u g) in
      (elim (nat_lt (length f) header_size) as (λ b. let effect : Effect = (if b then close Short u else take_frames at secs fs (take_frame at secs f u)) in Keeps answers effect None ds t os) [ true ↦ closes answers Short s u t os None ds h | false ↦ more ])

  pub piece_keeps : (at secs : ℕ) (o : List ℕ) (s : Slate) (t : Trail) (os : List Output) (ds : List Origin) → s.phase ≡ Open → Kept answers s t os → Keeps answers (piece at secs o s) None ds t os
  piece_keeps at secs o s t os ds p h =
      let u : Slate = record s { received = s.received ++ o } in
      take_keeps s t os ds h at secs (drop s.taken (frames (s.received ++ o))) u
      (record { phase = p; news = []; queue = sym (append-nil s.queue); refuse = All-nil FrameRefuses; asks = subst (λ (x : Phase). Has answers x s.requests t) p h.has })
