-- A piece cut in two changes nothing.
use Rattle.dns_session.specs.Serving.{Serving}
use Rattle.std.proofs.Common.{◌≡◌, ℕ, ◌+◌, ◌<◌, ◌≤◌, List, [], ◌∷◌, ◌++◌, length, drop, Bool, true, false, refl, ap, sym, ◌∙◌, arith, ◌⊎◌, inl, inr, ⊎_elim, append_assoc, append-nil, length-drop, add-zero}
use Rattle.std.specs.Prelude.{nat_lt, if◌then◌else◌}
use Rattle.std.proofs.lemmas.List.{drop_all, drop-append-le, drop_at}
use Rattle.std.proofs.lemmas.Bool.{cases_lt}
use Rattle.dns_events.specs.declared.event.Output.{Output}
use Rattle.dns_base.specs.Header.{header_of}
use Rattle.dns_base.specs.Wire.{wire}
use Rattle.dns_framing.specs.ErrorReply.{error_reply}
use Rattle.dns_session.specs.Frames.{frames, framed, behind_frames}
use Rattle.dns_session.specs.Rule.{in_phase}
use Rattle.dns_session.specs.Slate.{Slate, Effect, Phase, Unused, Open, Closed}
use Rattle.dns_session.specs.Requests.{header_size, most_requests, request_of_frame, unpolled}
use Rattle.dns_session.specs.Connections.{append_frame, enqueue_or_drop, room, take_request, take_frame, take_frames, piece}
use Rattle.dns_session.specs.Pieces.{piece_of, IsCut}
use Rattle.dns_framing.proofs.FramesLemmas.{goes}

abbrev with_received : List ℕ → Slate → Slate
with_received x s = record s { received = x }

-- the frames fs end at a short one, or more may follow
record Ends (at secs : ℕ) (fs gs : List (List ℕ)) (s : Slate) (x : List ℕ) : Type 0 where
  phase : (take_frames at secs fs s).0.phase ≡ Closed
  all : take_frames at secs (fs ++ gs) (with_received x s) ≡ take_frames at secs fs s

record Opens (at secs : ℕ) (fs gs : List (List ℕ)) (s : Slate) (x : List ℕ) : Type 0 where
  phase : (take_frames at secs fs s).0.phase ≡ s.phase
  none : (take_frames at secs fs s).1 ≡ []
  received : (take_frames at secs fs s).0.received ≡ s.received
  taken : (take_frames at secs fs s).0.taken ≡ s.taken + length fs
  all : take_frames at secs (fs ++ gs) (with_received x s) ≡ take_frames at secs gs (with_received x (take_frames at secs fs s).0)

abbrev refusal : List ℕ → List ℕ
refusal f = framed (wire (error_reply f 1))

-- a frame that is taken, before anything else is done with it
abbrev counted : ℕ → Slate → Slate
counted at s = record s { taken = s.taken + 1; reset_at = at }

-- what becomes of a frame doesn't depend on what was received
refused_received : (at : ℕ) (m : List ℕ) (t : Slate) (x : List ℕ) → enqueue_or_drop at m (with_received x t) ≡ with_received x (enqueue_or_drop at m t)
refused_received at m t x = (elim (room at t) as (λ b. (if b then append_frame at m (with_received x t) else with_received x t) ≡ with_received x (if b then append_frame at m t else t)) [ true ↦ refl | false ↦ refl ])

asked_received : (at secs : ℕ) (f : List ℕ) (t : Slate) (x : List ℕ) → take_request at secs f (with_received x t) ≡ with_received x (take_request at secs f t)
asked_received at secs f t x = (elim (nat_lt (length t.requests) most_requests) as (λ b. (if b then record (with_received x t) { requests = t.requests ++ unpolled (request_of_frame t.connection.idle_timeout t.addr at secs f) ∷ [] } else with_received x t) ≡ with_received x (if b then record t { requests = t.requests ++ unpolled (request_of_frame t.connection.idle_timeout t.addr at secs f) ∷ [] } else t)) [ true ↦ refl | false ↦ refl ])

frame_received : (at secs : ℕ) (f : List ℕ) (s : Slate) (x : List ℕ) → take_frame at secs f (with_received x s) ≡ with_received x (take_frame at secs f s)
frame_received at secs f s x = (elim (header_of f).qr as (λ b. (if b then enqueue_or_drop at (refusal f) (with_received x (counted at s)) else take_request at secs f (with_received x (counted at s))) ≡ with_received x (if b then enqueue_or_drop at (refusal f) (counted at s) else take_request at secs f (counted at s))) [ true ↦ refused_received at (refusal f) (counted at s) x | false ↦ asked_received at secs f (counted at s) x ])

-- it leaves the phase and what was received, and counts
record Same (s t : Slate) : Type 0 where
  phase : t.phase ≡ s.phase
  received : t.received ≡ s.received
  taken : t.taken ≡ s.taken

refused_same : (at : ℕ) (m : List ℕ) (t : Slate) → Same t (enqueue_or_drop at m t)
refused_same at m t = (elim (room at t) as (λ b. Same t (if b then append_frame at m t else t)) [ true ↦ record { phase = refl; received = refl; taken = refl } | false ↦ record { phase = refl; received = refl; taken = refl } ])

asked_same : (at secs : ℕ) (f : List ℕ) (t : Slate) → Same t (take_request at secs f t)
asked_same at secs f t = (elim (nat_lt (length t.requests) most_requests) as (λ b. Same t (if b then record t { requests = t.requests ++ unpolled (request_of_frame t.connection.idle_timeout t.addr at secs f) ∷ [] } else t)) [ true ↦ record { phase = refl; received = refl; taken = refl } | false ↦ record { phase = refl; received = refl; taken = refl } ])

frame_same : (at secs : ℕ) (f : List ℕ) (s : Slate) → Same (counted at s) (take_frame at secs f s)
frame_same at secs f s = (elim (header_of f).qr as (λ b. Same (counted at s) (if b then enqueue_or_drop at (refusal f) (counted at s) else take_request at secs f (counted at s))) [ true ↦ refused_same at (refusal f) (counted at s) | false ↦ asked_same at secs f (counted at s) ])

more_on : (at secs : ℕ) (f : List ℕ) (fs gs : List (List ℕ)) (s : Slate) (x : List ℕ) (b : Bool) → nat_lt (length f) header_size ≡ b → Ends at secs fs gs (take_frame at secs f s) x ⊎ Opens at secs fs gs (take_frame at secs f s) x → Ends at secs (f ∷ fs) gs s x ⊎ Opens at secs (f ∷ fs) gs s x
more_on at secs f fs gs s x true h ih = inl (record { phase = rw h refl; all = rw h refl })
more_on at secs f fs gs s x false h ih =
    let a = frame_same at secs f s in
    ⊎_elim
    (λ (e : Ends at secs fs gs (take_frame at secs f s) x). inl (record { phase = rw h e.phase; all = rw (h, frame_received at secs f s x) e.all }))
    (λ (o : Opens at secs fs gs (take_frame at secs f s) x). inr (record {
      phase = rw h (o.phase ∙ a.phase);
      none = rw h o.none;
      received = rw h (o.received ∙ a.received);
      taken = rw h (o.taken ∙ omega (arith, a.taken));
      all = rw (h, frame_received at secs f s x) o.all;
    }))
    ih

goes_on : (at secs : ℕ) (fs gs : List (List ℕ)) (s : Slate) (x : List ℕ) → Ends at secs fs gs s x ⊎ Opens at secs fs gs s x
goes_on at secs [] gs s x = inr (record { phase = refl; none = refl; received = refl; taken = sym (add-zero s.taken); all = refl })
goes_on at secs (f ∷ fs) gs s x = more_on at secs f fs gs s x (nat_lt (length f) header_size) refl (goes_on at secs fs gs (take_frame at secs f s) x)

-- the new frames of both parts are those of the whole
new_frames_join : (n : ℕ) (o a b : List ℕ) → drop n (frames (o ++ (a ++ b))) ≡ drop n (frames (o ++ a)) ++ drop (n + length (drop n (frames (o ++ a)))) (frames ((o ++ a) ++ b))
new_frames_join n o a b =
    let g = (goes (o ++ a) b).all in
    let l = length-drop n (frames (o ++ a)) in
    ⊎_elim
    (λ (less : n < length (frames (o ++ a))).
    let e : n + length (drop n (frames (o ++ a))) ≡ length (frames (o ++ a)) = omega (arith, l) in
    rw (e, ← append_assoc, g) (drop-append-le n (frames (o ++ a)) (frames (behind_frames (o ++ a) ++ b)) (omega arith) ∙ ap (λ fs. drop n (frames (o ++ a)) ++ fs) (sym (drop_at (frames (o ++ a)) (frames (behind_frames (o ++ a) ++ b)) (length (frames (o ++ a))) refl))))
    (λ (more : length (frames (o ++ a)) ≤ n).
    let z : drop n (frames (o ++ a)) ≡ [] = drop_all n (frames (o ++ a)) more in
    rw (z, add-zero n, ← append_assoc) refl)
    (cases_lt n (length (frames (o ++ a))))

-- a piece that finds the connection in this phase
abbrev found_in : Phase → Effect → Slate → Effect
found_in Open t u = t
found_in _ t u = (u, [])

module _ (answers : Serving) where
  -- the second part finds the connection as the first left it
  second_part : (c at secs : ℕ) (b : List ℕ) (u : Slate) (p : Phase) → u.phase ≡ p → in_phase answers (piece_of c at secs b) u.phase u ≡ found_in p (piece at secs b u) u
  second_part c at secs b u Unused e = rw e refl
  second_part c at secs b u _ e = rw e refl

  cut_open : (c at secs : ℕ) (a b : List ℕ) (s : Slate) → IsCut answers (piece_of c at secs (a ++ b)) (piece_of c at secs a) (piece_of c at secs b) (record s { phase = Open })
  cut_open c at secs a b s =
      let t = record s { phase = Open; received = s.received ++ a } in
      let fs = drop s.taken (frames (s.received ++ a)) in
      let gs = drop (s.taken + length fs) (frames ((s.received ++ a) ++ b)) in
      let x = s.received ++ (a ++ b) in
      let u = (take_frames at secs fs t).0 in
      let whole = ap (λ (l : List (List ℕ)). take_frames at secs l (with_received x t)) (new_frames_join s.taken s.received a b) in
      ⊎_elim
      (λ (e : Ends at secs fs gs t x).
      let second = second_part c at secs b u Closed e.phase in
      record {
        slate = ap (λ (r : Effect). r.0) (whole ∙ e.all) ∙ sym (ap (λ (r : Effect). r.0) second);
        says = ap (λ (r : Effect). r.1) (whole ∙ e.all) ∙ sym (append-nil (take_frames at secs fs t).1) ∙ sym (ap (λ (r : Effect). (take_frames at secs fs t).1 ++ r.1) second);
      })
      (λ (o : Opens at secs fs gs t x).
      let second = second_part c at secs b u Open o.phase in
      let rest : take_frames at secs gs (with_received x u) ≡ piece at secs b u =
      ap (λ (y : List ℕ). take_frames at secs gs (with_received y u)) (sym (append_assoc s.received a b))
      ∙ ap (λ (r : List ℕ). take_frames at secs (drop (s.taken + length fs) (frames (r ++ b))) (with_received (r ++ b) u)) (sym o.received)
      ∙ ap (λ (n : ℕ). take_frames at secs (drop n (frames (u.received ++ b))) (with_received (u.received ++ b) u)) (sym o.taken) in
      let all = whole ∙ o.all ∙ rest in
      record {
        slate = ap (λ (r : Effect). r.0) all ∙ sym (ap (λ (r : Effect). r.0) second);
        says = ap (λ (r : Effect). r.1) all ∙ sym (ap (λ (r : Effect). r.1) second) ∙ sym (ap (λ (os : List Output). os ++ (in_phase answers (piece_of c at secs b) u.phase u).1) o.none);
      })
      (goes_on at secs fs gs t x)

  pub cut_phase : (p : Phase) (c at secs : ℕ) (a b : List ℕ) (s : Slate) → IsCut answers (piece_of c at secs (a ++ b)) (piece_of c at secs a) (piece_of c at secs b) (record s { phase = p })
  cut_phase Open c at secs a b s = cut_open c at secs a b s
  cut_phase _ c at secs a b s = record { slate = refl; says = refl }
