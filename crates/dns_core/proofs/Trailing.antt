-- What a slate keeps of its trail: what went and what waits comes from its polls, each request's polls rise, and each reply is
-- somewhere. Where an event moves the trail: others join after what waits, what waits goes from the front, and what waits is
-- forgotten.
use Rattle.std.proofs.Common.{◌≡◌, ◌≢◌, ℕ, ◌+◌, ◌<◌, ◌⊎◌, inl, inr, true, false, Bool, List, [], ◌∷◌, ◌++◌, length, drop, take, replicate, Option, Some, None, refl, ap, sym, ◌∙◌, subst, append_assoc, length-append}
use Rattle.std.specs.Prelude.{filter, slice_get}
use Rattle.std.specs.List.{All}
use Rattle.std.proofs.lemmas.List.{append-nil}
use Rattle.dns_service.specs.Transport.{is_stream}
use Rattle.dns_events.specs.declared.event.Output.{Output}
use Rattle.dns_events.specs.declared.event.Why.{Why}
use Rattle.dns_session.specs.Connections.{close}
use Rattle.dns_session.specs.Serving.{Serving}
use Rattle.dns_session.specs.Slate.{Slate, SlateRequest, Effect, Phase, Unused, Exchange, Open, Flushing, Closed}
use Rattle.dns_core.specs.Trails.{Origin, Trail, AreFrom, AreQueued, IsRising, IsSomewhere, in_order, is_datagram_sent, is_frame, origin, messages_sent, poll_of, polls_of, reply_at}
use Rattle.dns_core.proofs.Origins.{At, at_left, at_right, at_split, take_joined, rising_front, polls_append, queued_length, queued_append, from_append}

abbrev pub trail : List (Option Origin) → List (Option Origin) → List Origin → Trail
trail went waiting dropped = record { went = went; waiting = waiting; dropped = dropped }

-- what an event makes of a trail, by what it told, its poll and what it dropped
abbrev pub trail_by : Effect → Option Origin → List Origin → Trail → Trail
trail_by effect x ds t =
    let gone = length (filter is_frame effect.1) in
    trail
    (t.went ++ (take gone t.waiting ++ replicate (length (filter is_datagram_sent effect.1)) x))
    (take (length effect.0.queue) (drop gone t.waiting ++ replicate (length effect.0.queue) x))
    (t.dropped ++ ds)

-- others join after what waits
abbrev pub waits_with : List (Option Origin) → List Origin → Trail → Trail
waits_with ms ds t = trail t.went (t.waiting ++ ms) (t.dropped ++ ds)

-- what went or waits still does, and what was dropped is
pub record GoesOn (t u : Trail) : Type 0 where
  pub sent : (m : Origin) → At t.went (Some m) ⊎ At t.waiting (Some m) → At u.went (Some m) ⊎ At u.waiting (Some m)
  pub dropped : (m : Origin) → At t.dropped m → At u.dropped m

pub joined_on : (ms : List (Option Origin)) (ds : List Origin) (t : Trail) → GoesOn t (waits_with ms ds t)
joined_on ms ds t = record {
  sent = λ m h. elim h [ inl g ↦ inl g | inr w ↦ inr (at_left t.waiting ms (Some m) w) ];
  dropped = λ m h. at_left t.dropped ds m h;
}

-- the first of what waits goes
pub front_on : (went xs : List (Option Origin)) (x : Option Origin) (dropped ds : List Origin) → GoesOn (trail went (x ∷ xs) dropped) (trail (went ++ x ∷ []) xs (dropped ++ ds))
front_on went xs x dropped ds = record {
  sent = λ m h. elim h [
    | inl g ↦ inl (at_left went (x ∷ []) (Some m) g)
    | inr w ↦ (elim (at_split xs x (Some m) w) [ inl e ↦ inl (at_right went (x ∷ []) (Some m) (0, ap Some e)) | inr rest ↦ inr rest ])
  ];
  dropped = λ m h. at_left dropped ds m h;
}

-- the polls of a request among what went and waits
pub polls_joined : (k : ℕ) (ms : List (Option Origin)) (ds : List Origin) (t : Trail) → polls_of k (in_order (waits_with ms ds t)) ≡ polls_of k (in_order t) ++ polls_of k ms
polls_joined k ms ds t = ap (polls_of k) (sym (append_assoc t.went t.waiting ms)) ∙ polls_append k (in_order t) ms

pub still_polls : (k : ℕ) (ds : List Origin) (t : Trail) → polls_of k (in_order (waits_with [] ds t)) ≡ polls_of k (in_order t)
still_polls k ds t = polls_joined k [] ds t ∙ append-nil (polls_of k (in_order t))

module _ (answers : Serving) where
  -- a reply stays somewhere, if it isn't held
  pub somewhere_on : (k : ℕ) (r r' : SlateRequest) (t u : Trail) (m : Origin) → GoesOn t u → ((r.held ≡ reply_at answers m) × (m ≡ origin k r) → IsSomewhere answers k r' u m) → IsSomewhere answers k r t m → IsSomewhere answers k r' u m
  somewhere_on k r r' t u m g held h = elim h [
    | inl went ↦ (elim (g.sent m (inl went)) [ inl x ↦ inl x | inr x ↦ inr (inl x) ])
    | inr (inl waits) ↦ (elim (g.sent m (inr waits)) [ inl x ↦ inl x | inr x ↦ inr (inl x) ])
    | inr (inr (inl x)) ↦ held x
    | inr (inr (inr drops)) ↦ inr (inr (inr (g.dropped m drops)))
  ]

  -- what holds of a request and its replies
  pub record Asks (stream : Bool) (k : ℕ) (r : SlateRequest) (t : Trail) : Type 0 where
    pub transport : is_stream r.request.transport ≡ stream
    pub unheld : stream ≡ false → r.held ≡ None
    pub below : All (λ n. n < (origin k r).poll) (polls_of k (in_order t))
    pub held : (m : List ℕ) → r.held ≡ Some m → (0 < r.polls) × (reply_at answers (origin k r) ≡ Some m)
    pub somewhere : (n : ℕ) → n < r.polls → reply_at answers (poll_of k r n) ≢ None → IsSomewhere answers k r t (poll_of k r n)

  -- of a request that wasn't made, nothing went
  abbrev pub AsksAt : Bool → ℕ → Option SlateRequest → Trail → Type 0
  AsksAt stream k None t = polls_of k (in_order t) ≡ []
  AsksAt stream k (Some r) t = Asks stream k r t

  abbrev pub AsksAll : Bool → List SlateRequest → Trail → Type 0
  AsksAll stream rs t = (k : ℕ) → AsksAt stream k (slice_get rs k) t

  -- by the state: if all ends, the requests are forgotten
  abbrev pub Has : Phase → List SlateRequest → Trail → Type 0
  Has Unused rs t = (rs ≡ []) × (t.waiting ≡ []) × ((k : ℕ) → polls_of k (in_order t) ≡ [])
  Has Exchange rs t = (t.waiting ≡ []) × AsksAll false rs t
  Has Open rs t = AsksAll true rs t
  Has (Flushing why) rs t = rs ≡ []
  Has Closed rs t = rs ≡ []

  pub record Kept (s : Slate) (t : Trail) (os : List Output) : Type 0 where
    pub went : AreFrom answers t.went os
    pub waiting : AreQueued answers t.waiting s.queue
    pub order : (k : ℕ) → IsRising (polls_of k (in_order t))
    pub has : Has s.phase s.requests t

  -- what is kept once an event told this
  abbrev pub Keeps : Effect → Option Origin → List Origin → Trail → List Output → Type 0
  Keeps effect x ds t os = Kept effect.0 (trail_by effect x ds t) (os ++ messages_sent effect.1)

  asks_case : (stream : Bool) (k : ℕ) (x : Option SlateRequest) (t u : Trail) → polls_of k (in_order u) ≡ polls_of k (in_order t) → GoesOn t u → AsksAt stream k x t → AsksAt stream k x u
  asks_case stream k None t u e g h = e ∙ h
  asks_case stream k (Some r) t u e g h = record {
    transport = h.transport;
    unheld = h.unheld;
    below = subst (All (λ n. n < (origin k r).poll)) (sym e) h.below;
    held = h.held;
    somewhere = λ n lt ne. somewhere_on k r r t u (poll_of k r n) g (λ x. inr (inr (inl x))) (h.somewhere n lt ne);
  }

  -- a request of which nothing more went or waits
  pub asks_on : (stream : Bool) (k : ℕ) (x : Option SlateRequest) (t u : Trail) → polls_of k (in_order u) ≡ polls_of k (in_order t) → GoesOn t u → AsksAt stream k x t → AsksAt stream k x u
  asks_on stream k x t u e g h = asks_case stream k x t u e g h

  pub has_on : (p : Phase) (rs : List SlateRequest) (t u : Trail) → (t.waiting ≡ [] → u.waiting ≡ []) → ((k : ℕ) → polls_of k (in_order u) ≡ polls_of k (in_order t)) → GoesOn t u → Has p rs t → Has p rs u
  has_on Unused rs t u w e g h = (h.0, w h.1, λ k. e k ∙ h.2 k)
  has_on Exchange rs t u w e g h = (w h.0, λ k. asks_on false k (slice_get rs k) t u (e k) g (h.1 k))
  has_on Open rs t u w e g h = λ k. asks_on true k (slice_get rs k) t u (e k) g (h k)
  has_on (Flushing why) rs t u w e g h = h
  has_on Closed rs t u w e g h = h

  -- ---- what joins

  joined_trail : (u : Slate) (x : Option Origin) (ds : List Origin) (t : Trail) (n : ℕ) → length u.queue ≡ length t.waiting + n → waits_with (replicate n x) ds t ≡ trail_by (u, []) x ds t
  joined_trail u x ds t n h =
      ap (λ (ws : List (Option Origin)). trail t.went ws (t.dropped ++ ds)) (sym (take_joined t.waiting n (length u.queue) x h))
      ∙ ap (λ (ws : List (Option Origin)). trail ws (take (length u.queue) (t.waiting ++ replicate (length u.queue) x)) (t.dropped ++ ds)) (sym (append-nil t.went))

  joined_kept : (s u : Slate) (t : Trail) (os : List Output) (news : List (List ℕ)) (ms : List (Option Origin)) (ds : List Origin) → Kept s t os → u.queue ≡ s.queue ++ news → AreQueued answers ms news
      → ((k : ℕ) → IsRising (polls_of k (in_order t) ++ polls_of k ms)) → Has u.phase u.requests (waits_with ms ds t) → Kept u (waits_with ms ds t) os
  joined_kept s u t os news ms ds h q from rises has = record {
    went = h.went;
    waiting = subst (AreQueued answers (t.waiting ++ ms)) (sym q) (queued_append answers t.waiting ms s.queue news h.waiting from);
    order = λ k. subst IsRising (sym (polls_joined k ms ds t)) (rises k);
    has = has;
  }

  -- frames that come from this poll are queued, and nothing is sent
  pub joins : (s u : Slate) (t : Trail) (os : List Output) (news : List (List ℕ)) (x : Option Origin) (ds : List Origin) → Kept s t os → u.queue ≡ s.queue ++ news → AreQueued answers (replicate (length news) x) news
      → ((k : ℕ) → IsRising (polls_of k (in_order t) ++ polls_of k (replicate (length news) x))) → Has u.phase u.requests (waits_with (replicate (length news) x) ds t) → Keeps (u, []) x ds t os
  joins s u t os news x ds h q from rises has =
      let l : length u.queue ≡ length t.waiting + length news = ap length q ∙ length-append s.queue news ∙ ap (λ (n : ℕ). n + length news) (sym (queued_length answers t.waiting s.queue h.waiting)) in
      let k = joined_kept s u t os news (replicate (length news) x) ds h q from rises has in
      subst (λ (v : Trail). Kept u v (os ++ [])) (joined_trail u x ds t (length news) l)
      (subst (λ (ps : List Output). Kept u (waits_with (replicate (length news) x) ds t) ps) (sym (append-nil os)) k)

  rising_nil : (k : ℕ) (t : Trail) → IsRising (polls_of k (in_order t)) → IsRising (polls_of k (in_order t) ++ [])
  rising_nil k t h = subst IsRising (sym (append-nil (polls_of k (in_order t)))) h

  -- no frame is queued, and nothing is sent
  pub stays : (s u : Slate) (t : Trail) (os : List Output) (x : Option Origin) (ds : List Origin) → Kept s t os → u.queue ≡ s.queue → Has u.phase u.requests (waits_with [] ds t) → Keeps (u, []) x ds t os
  stays s u t os x ds h q has = joins s u t os [] x ds h (q ∙ sym (append-nil s.queue)) tt (λ k. rising_nil k t (h.order k)) has

  pub has_still : (p : Phase) (rs : List SlateRequest) (ds : List Origin) (t : Trail) → Has p rs t → Has p rs (waits_with [] ds t)
  has_still p rs ds t h = has_on p rs t (waits_with [] ds t) (λ e. append-nil t.waiting ∙ e) (λ k. still_polls k ds t) (joined_on [] ds t) h

  -- nothing changes
  pub still : (s : Slate) (t : Trail) (os : List Output) (x : Option Origin) (ds : List Origin) → Kept s t os → Keeps (s, []) x ds t os
  still s t os x ds h = stays s s t os x ds h refl (has_still s.phase s.requests ds t h.has)

  -- ---- what goes

  -- all that waits is forgotten
  pub ends : (why : Why) (s : Slate) (went rest : List (Option Origin)) (dropped : List Origin) (os : List Output) → AreFrom answers went os → ((k : ℕ) → IsRising (polls_of k (went ++ rest))) → Kept (close why s).0 (trail went [] dropped) os
  ends why s went rest dropped os from rises = record {
    went = from;
    waiting = tt;
    order = λ k. subst (λ (ms : List (Option Origin)). IsRising (polls_of k ms)) (sym (append-nil went)) (rising_front (polls_of k went) (polls_of k rest) (subst IsRising (polls_append k went rest) (rises k)));
    has = refl;
  }

  pub closes : (why : Why) (s u : Slate) (t : Trail) (os : List Output) (x : Option Origin) (ds : List Origin) → Kept s t os → Keeps (close why u) x ds t os
  closes why s u t os x ds h =
      ends why u (t.went ++ []) t.waiting (t.dropped ++ ds) (os ++ []) (from_append answers t.went [] os [] h.went tt)
      (λ k. subst (λ (ms : List (Option Origin)). IsRising (polls_of k (ms ++ t.waiting))) (sym (append-nil t.went)) (h.order k))
