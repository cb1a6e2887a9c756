-- What noted events show of why a connection was closed.
use Rattle.std.proofs.Common.{◌≡◌, ℕ, ◌≤◌, ◌<◌, ◌⊎◌, List, [], ◌∷◌, ◌++◌, arith, refl, sym, ◌∙◌, ap, append_assoc, append-nil, subst, inl, inr, Some, None}
use Rattle.std.proofs.lemmas.List.{append_cancel_left}
use Rattle.dns_events.specs.declared.look.Look.{Look}
use Rattle.dns_book.specs.declared.history.Known.{Known}
use Rattle.dns_io.specs.Traffic.{Traffic}
use Rattle.dns_events.specs.declared.event.Event.{Event}
use Rattle.dns_events.specs.declared.event.EventKind.{EventKind}
use Rattle.dns_events.specs.declared.event.EventKind.TheVariants.{Datagram, Offer, End, Close, Write, Release}
use Rattle.dns_events.specs.declared.event.Output.{Output}
use Rattle.dns_events.specs.declared.event.Why.{Why}
use Rattle.dns_events.specs.declared.event.Why.TheVariants.{Ended, Short, Idle, WriteTimeout, Shutdown as ByShutdown}
use Rattle.dns_service.specs.Answer.{Answer}
use Rattle.dns_service.specs.declared.polled.PolledRequest.{PolledRequest}
use Rattle.dns_session.specs.Stands.{Stands}
use Rattle.dns_session.specs.declared.client.ClientCore.{ClientCore}
use Rattle.dns_session.specs.After.{slate_after, sent_after}
use Rattle.dns_session.specs.Reasons.{HasShortFrame, IsShortPiece, IsLongWrite}
use Rattle.dns_session.specs.Rule.{rule}
use Rattle.dns_session.specs.Serving.{Serving}
use Rattle.dns_session.specs.Slate.{Slate, Open}
use Rattle.dns_stream_driver.specs.Blames.{NotedWrite}
use Rattle.dns_stream_driver.specs.Links.{piece_octets, pieces_in, end_count, ends_in, frame_octets, front}
use Rattle.dns_stream_driver.specs.Rounds.{May, turned, Rounds}
use Rattle.dns_stream_driver.specs.Shown.{Shows, Shown}
use Rattle.dns_stream_driver.specs.Story.{Story, LastCloses}
use Rattle.dns_stream_driver.proofs.Appends.{pieces_append, ends_append, sent_append}
use Rattle.dns_stream_driver.proofs.Reasons.{IsServedBy, IsServedIn, Reason, reason}
use Rattle.dns_stream_driver.proofs.ServedConnection.{Serves, serves}
use Rattle.dns_stream_driver.proofs.Wide.{frames_append}

pub by_may : (below : ℕ) (k : EventKind) (s : Slate) → May below k s → IsServedBy k
by_may below (Datagram addr o) s m = m
by_may below (Offer addr) s m = m
by_may below Close s m = m
by_may below Release s m = m
by_may below _ s m = tt

-- the state after some events, and the octets received
record SoFar (s : Slate) (es : List Event) (t : Slate) : Type 0 where
  served : IsServedIn t.phase
  received : t.phase ≡ Open → t.received ≡ s.received ++ pieces_in es

pieces_snoc : (es : List Event) (e : Event) → pieces_in (es ++ e ∷ []) ≡ pieces_in es ++ piece_octets e.kind
pieces_snoc es e = pieces_append es (e ∷ []) ∙ ap (λ (o : List ℕ). pieces_in es ++ o) (append-nil (piece_octets e.kind))

-- the last ones of two lists
snoc_same : (xs ys : List Event) (x y : Event) → xs ++ x ∷ [] ≡ ys ++ y ∷ [] → (xs ≡ ys) × (x ≡ y)
snoc_same [] [] x y e = (refl, cc)
snoc_same [] (b ∷ []) x y e = absurd cc
snoc_same [] (b ∷ c ∷ ys) x y e = absurd cc
snoc_same (a ∷ []) [] x y e = absurd cc
snoc_same (a ∷ d ∷ xs) [] x y e = absurd cc
snoc_same (a ∷ xs) (b ∷ ys) x y e =
    let tail : xs ++ x ∷ [] ≡ ys ++ y ∷ [] = cc in
    let i = snoc_same xs ys x y tail in
    let head : a ≡ b = cc in
    (rw (head, i.0) refl, i.1)

some_end : (es : List Event) (e : Event) → e.kind ≡ End → 1 ≤ ends_in (es ++ e ∷ [])
some_end es e h = let all = ends_append es (e ∷ []) in let one : end_count e.kind ≡ 1 = rw h refl in omega arith

module _ (answers : Serving) where
  so_far : (es : List Event) (below : ℕ) (s : Slate) → IsServedIn s.phase → Rounds answers below s es → SoFar s es (slate_after answers s es)
  so_far [] below s v r = record { served = v; received = λ h. sym (append-nil s.received) }
  so_far (e ∷ es) below s v r =
      let a = serves answers e s v (by_may below e.kind s r.0) in
      let b = so_far es (turned below e.kind) (rule answers e s).0 a.served r.1 in
      record { served = b.served; received = λ h. b.received h ∙ (ap (λ (o : List ℕ). o ++ pieces_in es) (received_at es (turned below e.kind) (rule answers e s).0 a.served r.1 e s a h) ∙ append_assoc s.received (piece_octets e.kind) (pieces_in es)) }
    where
      -- what is open after some events was open before them
      was_open : (es : List Event) (below : ℕ) (s : Slate) → IsServedIn s.phase → Rounds answers below s es → (slate_after answers s es).phase ≡ Open → s.phase ≡ Open
      was_open [] below s v r h = h
      was_open (e ∷ es) below s v r h =
          let a = serves answers e s v (by_may below e.kind s r.0) in
          (a.received (was_open es (turned below e.kind) (rule answers e s).0 a.served r.1 h)).0

      received_at : (es : List Event) (below : ℕ) (t : Slate) → IsServedIn t.phase → Rounds answers below t es → (e : Event) (s : Slate) → Serves e s t → (slate_after answers t es).phase ≡ Open → t.received ≡ s.received ++ piece_octets e.kind
      received_at es below t v r e s a h = (a.received (was_open es below t v r h)).1

  rounds_before : (es : List Event) (e : Event) (below : ℕ) (s : Slate) → Rounds answers below s (es ++ e ∷ []) → Rounds answers below s es
  rounds_before [] e below s r = tt
  rounds_before (f ∷ es) e below s r = (r.0, rounds_before es e (turned below f.kind) (rule answers f s).0 r.1)

  -- why the last event closes the connection
  pub reason_of : (s : Slate) (events : List Event) (why : Why) → IsServedIn s.phase → Rounds answers 0 s events → (l : LastCloses answers s events why) → Reason why l.event (slate_after answers s l.before) (rule answers l.event (slate_after answers s l.before)).1
  reason_of s events why v r l =
      let h = rounds_before l.before l.event 0 s (rw l.is at r) in
      reason answers l.event (slate_after answers s l.before) (so_far l.before 0 s v h).served why l.closes

  short_shown : (s : Slate) (events : List Event) → s.phase ≡ Open → s.received ≡ [] → Rounds answers 0 s events → (l : LastCloses answers s events Short) → IsShortPiece l.event (slate_after answers s l.before) → HasShortFrame (pieces_in events)
  short_shown s events p n r l c =
      let h = rounds_before l.before l.event 0 s (rw l.is at r) in
      let v : IsServedIn s.phase = rw p tt in
      let got : (slate_after answers s l.before).received ≡ pieces_in l.before = (so_far l.before 0 s v h).received c.phase ∙ ap (λ (o : List ℕ). o ++ pieces_in l.before) n in
      let all : pieces_in events ≡ (slate_after answers s l.before).received ++ c.octets = rw l.is (pieces_snoc l.before l.event ∙ rw (c.kind, got) refl) in
      rw all c.short

  -- a Write that took too long, the frame that stood first then being written whole, or a write having answered Again
  abbrev pub WroteLast : Slate → Why → List Event → Traffic → Traffic → Type 0
  WroteLast s why events t t' = (l : LastCloses answers s events why) → (t'.went ≡ (t.went ++ frame_octets (sent_after answers s events)) ++ front (slate_after answers s l.before).queue) ⊎ (t.full_writes < t'.full_writes)

  pub shows : (why : Why) (s : Slate) (client : ℕ) (first : Look) (n n' : List Event) (k k' : Known) (t t' : Traffic) → s.phase ≡ Open → s.received ≡ [] →
      (y : Story answers s client first (Some why) n n' k k' t t') → (why ≡ WriteTimeout → WroteLast s why y.events t t') → Shows why answers s y.events t t'
  shows Ended s client first n n' k k' t t' p o y w =
      let v : IsServedIn s.phase = rw p tt in
      let end : y.last.event.kind ≡ End = (reason_of s y.events Ended v y.rounds y.last).closes in
      let some : 1 ≤ ends_in y.events = rw y.last.is (some_end y.last.before y.last.event end) in
      let all = y.ends in
      omega arith
  shows Short s client first n n' k k' t t' p o y w = let v : IsServedIn s.phase = rw p tt in short_shown s y.events p o y.rounds y.last (reason_of s y.events Short v y.rounds y.last).closes
  shows Idle s client first n n' k k' t t' p o y w = let v : IsServedIn s.phase = rw p tt in record { before = y.last.before; event = y.last.event; is = y.last.is; such = (reason_of s y.events Idle v y.rounds y.last).closes }
  shows WriteTimeout s client first n n' k k' t t' p o y w =
      let v : IsServedIn s.phase = rw p tt in
      record { before = y.last.before; event = y.last.event; is = y.last.is; such = record { long = (reason_of s y.events WriteTimeout v y.rounds y.last).closes; shown = w refl y.last } }
  shows _ s client first n n' k k' t t' p o y w = tt

  sent_snoc : (s : Slate) (es : List Event) (e : Event) → sent_after answers s (es ++ e ∷ []) ≡ sent_after answers s es ++ (rule answers e (slate_after answers s es)).1
  sent_snoc s es e = sent_append answers s es (e ∷ []) ∙ ap (λ (o : List Output). sent_after answers s es ++ o) (append-nil (rule answers e (slate_after answers s es)).1)

  -- a last event for which no frame is sent
  silent_last : (s : Slate) (events es before : List Event) (event : Event) → events ≡ before ++ event ∷ [] → es ≡ before → frame_octets (rule answers event (slate_after answers s before)).1 ≡ [] → frame_octets (sent_after answers s events) ≡ frame_octets (sent_after answers s es)
  silent_last s events es before event i b f =
      ap (λ (l : List Event). frame_octets (sent_after answers s l)) i
      ∙ (ap frame_octets (sent_snoc s before event)
      ∙ (frames_append (sent_after answers s before) (rule answers event (slate_after answers s before)).1
      ∙ (ap (λ (o : List ℕ). frame_octets (sent_after answers s before) ++ o) f
      ∙ (append-nil (frame_octets (sent_after answers s before))
      ∙ ap (λ (l : List Event). frame_octets (sent_after answers s l)) (sym b)))))

module _ {W R F : Type 0} (answer : PolledRequest F R → ℕ → Answer) (answers : Serving) where
  wrote_last : (why : Why) (s : Slate) (client : ℕ) (first : Look) (core : ClientCore W R F) (n n1 n2 : List Event) (k k1 k2 : Known) (t t1 t2 : Traffic) → s.phase ≡ Open → t.full_writes ≤ t1.full_writes →
      (x : Story answers s client first None n n1 k k1 t t1) → Stands answer answers core (slate_after answers s x.events) → NotedWrite answer core n1 n2 t1 t2 →
      (y : Story answers s client first (Some why) n n2 k k2 t t2) → why ≡ WriteTimeout → WroteLast answers s why y.events t t2
  wrote_last why s client first core n n1 n2 k k1 k2 t t1 t2 p f x stands w y is l =
      let v : IsServedIn s.phase = rw p tt in
      let split : x.events ++ w.event ∷ [] ≡ l.before ++ l.event ∷ [] =
      append_cancel_left n (x.events ++ w.event ∷ []) (l.before ++ l.event ∷ []) (sym (append_assoc n x.events (w.event ∷ [])) ∙ (ap (λ (m : List Event). m ++ w.event ∷ []) (sym x.noted) ∙ (sym w.noted ∙ (y.noted ∙ ap (λ (m : List Event). n ++ m) l.is)))) in
      let same = snoc_same x.events l.before w.event l.event split in
      let P : Why → Type 0 = λ u. Reason u l.event (slate_after answers s l.before) (rule answers l.event (slate_after answers s l.before)).1 in
      let r : Reason WriteTimeout l.event (slate_after answers s l.before) (rule answers l.event (slate_after answers s l.before)).1 = subst P is (reason_of answers s y.events why v y.rounds l) in
      let c : IsLongWrite l.event (slate_after answers s l.before) = r.closes in
      let kind : w.event.kind ≡ Write c.took = ap (λ (e : Event). e.kind) same.1 ∙ c.kind in
      let went : t1.went ≡ t.went ++ frame_octets (sent_after answers s y.events) =
      x.went ∙ (ap (λ (o : List ℕ). t.went ++ (frame_octets (sent_after answers s x.events) ++ o)) x.cut ∙ (ap (λ (o : List ℕ). t.went ++ o) (append-nil (frame_octets (sent_after answers s x.events)) ∙ sym (silent_last answers s y.events x.events l.before l.event l.is same.0 (r.silent refl))))) in
      let first_is : front (slate_after answers s x.events).queue ≡ front (slate_after answers s l.before).queue = ap (λ (m : List Event). front (slate_after answers s m).queue) same.0 in
      let wrote = w.wrote answers (slate_after answers s x.events) stands in
      elim (wrote.write c.took kind) [
        | inl h ↦ inl (h ∙ (ap (λ (o : List ℕ). o ++ front (slate_after answers s x.events).queue) went ∙ ap (λ (o : List ℕ). (t.went ++ frame_octets (sent_after answers s y.events)) ++ o) first_is))
        | inr h ↦ inr (omega arith)
      ]

  -- after an own event that closes the connection
  pub shown_acted : (why : Why) (s : Slate) (client : ℕ) (first : Look) (core : ClientCore W R F) (n n1 n2 : List Event) (k k1 k2 : Known) (t t1 t2 : Traffic) → s.phase ≡ Open → s.received ≡ [] → t.full_writes ≤ t1.full_writes →
      (x : Story answers s client first None n n1 k k1 t t1) → Stands answer answers core (slate_after answers s x.events) → NotedWrite answer core n1 n2 t1 t2 →
      Story answers s client first (Some why) n n2 k k2 t t2 → Shown answers s why n n2 t t2
  shown_acted why s client first core n n1 n2 k k1 k2 t t1 t2 p o f x stands w y = record {
    events = y.events;
    noted = y.noted;
    shows = shows answers why s client first n n2 k k2 t t2 p o y (wrote_last why s client first core n n1 n2 k k1 k2 t t1 t2 p f x stands w y);
  }

-- after a look, if the connection is closed by a shutdown
pub shown_heard : (answers : Serving) (why : Why) (s : Slate) (client : ℕ) (first : Look) (n n' : List Event) (k k' : Known) (t t' : Traffic) → why ≡ ByShutdown → Story answers s client first (Some why) n n' k k' t t' → Shown answers s why n n' t t'
shown_heard answers why s client first n n' k k' t t' e y = record { events = y.events; noted = y.noted; shows = rw e tt }
