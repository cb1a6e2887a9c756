-- What a poll of a request, and a turn of one whose reply is held, leave of what the request and its trail keep.
use Rattle.std.proofs.Common.{◌≡◌, ◌≢◌, ℕ, ◌+◌, ◌-◌, ◌<◌, ◌⊎◌, inl, inr, ⊎_elim, true, false, Bool, List, [], ◌∷◌, ◌++◌, Option, Some, None, refl, ap, sym, ◌∙◌, subst, arith}
use Rattle.std.specs.Prelude.{is_some, slice_get, slice_set, if◌then◌else◌}
use Rattle.std.specs.List.{All}
use Rattle.std.proofs.lemmas.Bool.{cases_eq}
use Rattle.std.proofs.lemmas.List.{append-nil}
use Rattle.std.proofs.lemmas.List.Elements.{All-nil, All-cons, All-append, All-weaker}
use Rattle.dns_service.specs.declared.invoker.InvokerStatus.{InvokerStatus}
use Rattle.dns_session.specs.Serving.{Serving}
use Rattle.dns_session.specs.Slate.{SlateRequest}
use Rattle.dns_core.specs.Trails.{Origin, Trail, IsRising, IsSomewhere, in_order, origin, poll_of, polls_of, reply_at}
use Rattle.dns_core.proofs.Origins.{at_right, get_set_same, get_set_other, polls_same, polls_other, rising_push}
use Rattle.dns_core.proofs.Trailing.{Asks, AsksAll, AsksAt, GoesOn, asks_on, joined_on, polls_joined, somewhere_on, still_polls, waits_with}

-- a request after one more poll
abbrev pub repolled : SlateRequest → Option (List ℕ) → InvokerStatus → Bool → SlateRequest
repolled r held status done = record { request = r.request; polls = r.polls + 1; held = held; status = status; done = done }

-- the poll of a request that holds nothing is the next one
pub origin_free : (k : ℕ) (r : SlateRequest) → r.held ≡ None → origin k r ≡ poll_of k r r.polls
origin_free k r h = ap (λ (x : Option (List ℕ)). poll_of k r (if is_some x then r.polls - 1 else r.polls)) h

pub origin_held : (k : ℕ) (r : SlateRequest) (m : List ℕ) → r.held ≡ Some m → origin k r ≡ poll_of k r (r.polls - 1)
origin_held k r m h = ap (λ (x : Option (List ℕ)). poll_of k r (if is_some x then r.polls - 1 else r.polls)) h

-- no other request has it
pub others_none : (k j : ℕ) (r : SlateRequest) → j ≢ k → polls_of j (Some (origin k r) ∷ []) ≡ []
others_none k j r ne = polls_other j (origin k r) (λ (e : k ≡ j). ne (sym e))

last_case : (n p : ℕ) → n < p + 1 → (n < p) ⊎ (n ≡ p)
last_case n p h = ⊎_elim (λ (e : n ≡ p). inr e) (λ (ne : n ≢ p). inl (omega arith)) (cases_eq n p)

module _ (answers : Serving) where
  -- after a poll: what is below the next poll, what is held, and where the reply to this poll is
  pub after_poll : (stream : Bool) (k : ℕ) (r : SlateRequest) (held : Option (List ℕ)) (status : InvokerStatus) (done : Bool) (t u : Trail) → r.held ≡ None → Asks answers stream k r t → GoesOn t u
      → (stream ≡ false → held ≡ None)
      → All (λ n. n < (origin k (repolled r held status done)).poll) (polls_of k (in_order u))
      → ((m : List ℕ) → held ≡ Some m → reply_at answers (origin k (repolled r held status done)) ≡ Some m)
      → (reply_at answers (poll_of k r r.polls) ≢ None → IsSomewhere answers k (repolled r held status done) u (poll_of k r r.polls))
      → Asks answers stream k (repolled r held status done) u
  after_poll stream k r held status done t u free h g unheld below holds here = record {
    transport = h.transport;
    unheld = unheld;
    below = below;
    held = λ m e. (omega arith, holds m e);
    somewhere = λ n lt ne. ⊎_elim
        (λ (before : n < r.polls). somewhere_on answers k r (repolled r held status done) t u (poll_of k r n) g (λ x. absurd (ne (sym x.0 ∙ free))) (h.somewhere n before ne))
        (λ (last : n ≡ r.polls). subst (λ (i : ℕ). IsSomewhere answers k (repolled r held status done) u (poll_of k r i)) (sym last) (here (subst (λ (i : ℕ). reply_at answers (poll_of k r i) ≢ None) last ne)))
        (last_case n r.polls lt);
  }

  free_below : (stream : Bool) (k : ℕ) (r : SlateRequest) (t : Trail) → r.held ≡ None → Asks answers stream k r t → All (λ n. n < r.polls) (polls_of k (in_order t))
  free_below stream k r t free h = subst (λ (m : Origin). All (λ n. n < m.poll) (polls_of k (in_order t))) (origin_free k r free) h.below

  below_more : (p : ℕ) (ns : List ℕ) → All (λ n. n < p) ns → All (λ n. n < p + 1) ns
  below_more p ns h = All-weaker (λ n. n < p) (λ n. n < p + 1) (λ n lt. omega arith) ns h

  pub below_one : (p q : ℕ) → p < q → All (λ n. n < q) (p ∷ [])
  below_one p q h = All-cons (λ n. n < q) p [] h (All-nil (λ n. n < q))

  -- no reply
  pub polls_silent : (stream : Bool) (k : ℕ) (r : SlateRequest) (held : Option (List ℕ)) (status : InvokerStatus) (done : Bool) (ds : List Origin) (t : Trail) → r.held ≡ None → held ≡ None → Asks answers stream k r t → reply_at answers (poll_of k r r.polls) ≡ None
      → Asks answers stream k (repolled r held status done) (waits_with [] ds t)
  polls_silent stream k r held status done ds t free new h none =
      after_poll stream k r held status done t (waits_with [] ds t) free h (joined_on [] ds t) (λ e. new)
      (subst (All (λ n. n < (origin k (repolled r held status done)).poll)) (sym (still_polls k ds t))
      (subst (λ (m : Origin). All (λ n. n < m.poll) (polls_of k (in_order t))) (sym (origin_free k (repolled r held status done) new)) (below_more r.polls (polls_of k (in_order t)) (free_below stream k r t free h))))
      (λ m e. let no : None ≡ Some m = sym new ∙ e in cc)
      (λ ne. absurd (ne none))

  -- a reply that is dropped
  pub polls_dropped : (k : ℕ) (r : SlateRequest) (held : Option (List ℕ)) (status : InvokerStatus) (done : Bool) (t : Trail) → r.held ≡ None → held ≡ None → Asks answers true k r t
      → Asks answers true k (repolled r held status done) (waits_with [] (origin k r ∷ []) t)
  polls_dropped k r held status done t free new h =
      let ds : List Origin = origin k r ∷ [] in
      after_poll true k r held status done t (waits_with [] ds t) free h (joined_on [] ds t) (λ e. new)
      (subst (All (λ n. n < (origin k (repolled r held status done)).poll)) (sym (still_polls k ds t))
      (subst (λ (m : Origin). All (λ n. n < m.poll) (polls_of k (in_order t))) (sym (origin_free k (repolled r held status done) new)) (below_more r.polls (polls_of k (in_order t)) (free_below true k r t free h))))
      (λ m e. let no : None ≡ Some m = sym new ∙ e in cc)
      (λ ne. inr (inr (inr (at_right t.dropped ds (poll_of k r r.polls) (0, ap Some (origin_free k r free))))))

  -- a reply that is held
  pub polls_held : (k : ℕ) (r : SlateRequest) (o : List ℕ) (status : InvokerStatus) (done : Bool) (ds : List Origin) (t : Trail) → r.held ≡ None → Asks answers true k r t → reply_at answers (poll_of k r r.polls) ≡ Some o
      → Asks answers true k (repolled r (Some o) status done) (waits_with [] ds t)
  polls_held k r o status done ds t free h reply =
      let last : r.polls + 1 - 1 ≡ r.polls = omega arith in
      let same : origin k (repolled r (Some o) status done) ≡ poll_of k r r.polls = ap (poll_of k r) last in
      after_poll true k r (Some o) status done t (waits_with [] ds t) free h (joined_on [] ds t) (λ e. cc)
      (subst (All (λ n. n < (origin k (repolled r (Some o) status done)).poll)) (sym (still_polls k ds t))
      (subst (λ (m : Origin). All (λ n. n < m.poll) (polls_of k (in_order t))) (sym same) (free_below true k r t free h)))
      (λ m e. ap (reply_at answers) same ∙ reply ∙ e)
      (λ ne. inr (inr (inl (sym reply, sym same))))

  -- a reply that goes, or waits
  pub polls_replied : (stream : Bool) (k : ℕ) (r : SlateRequest) (held : Option (List ℕ)) (status : InvokerStatus) (done : Bool) (t u : Trail) → r.held ≡ None → held ≡ None → Asks answers stream k r t → GoesOn t u
      → polls_of k (in_order u) ≡ polls_of k (in_order t) ++ polls_of k (Some (origin k r) ∷ []) → IsSomewhere answers k (repolled r held status done) u (poll_of k r r.polls)
      → Asks answers stream k (repolled r held status done) u
  polls_replied stream k r held status done t u free new h g polls there =
      let p : polls_of k (Some (origin k r) ∷ []) ≡ r.polls ∷ [] = polls_same k (origin k r) refl ∙ ap (λ (m : Origin). m.poll ∷ []) (origin_free k r free) in
      after_poll stream k r held status done t u free h g (λ e. new)
      (subst (All (λ n. n < (origin k (repolled r held status done)).poll)) (sym (polls ∙ ap (λ (ns : List ℕ). polls_of k (in_order t) ++ ns) p))
      (subst (λ (m : Origin). All (λ n. n < m.poll) (polls_of k (in_order t) ++ r.polls ∷ [])) (sym (origin_free k (repolled r held status done) new))
      (All-append (λ n. n < r.polls + 1) (polls_of k (in_order t)) (r.polls ∷ []) (below_more r.polls (polls_of k (in_order t)) (free_below stream k r t free h)) (below_one r.polls (r.polls + 1) (omega arith)))))
      (λ m e. let no : None ≡ Some m = sym new ∙ e in cc)
      (λ ne. there)

  -- a reply that is queued
  pub polls_queued : (k : ℕ) (r : SlateRequest) (held : Option (List ℕ)) (status : InvokerStatus) (done : Bool) (ds : List Origin) (t : Trail) → r.held ≡ None → held ≡ None → Asks answers true k r t
      → Asks answers true k (repolled r held status done) (waits_with (Some (origin k r) ∷ []) ds t)
  polls_queued k r held status done ds t free new h =
      let ms : List (Option Origin) = Some (origin k r) ∷ [] in
      polls_replied true k r held status done t (waits_with ms ds t) free new h (joined_on ms ds t) (polls_joined k ms ds t)
      (inr (inl (at_right t.waiting ms (Some (poll_of k r r.polls)) (0, ap (λ (m : Origin). Some (Some m)) (origin_free k r free)))))

  -- a held reply that is queued
  pub held_queued : (k : ℕ) (r : SlateRequest) (o : List ℕ) (ds : List Origin) (t : Trail) → r.held ≡ Some o → Asks answers true k r t
      → Asks answers true k (record r { held = None }) (waits_with (Some (origin k r) ∷ []) ds t)
  held_queued k r o ds t is h =
      let ms : List (Option Origin) = Some (origin k r) ∷ [] in
      let some : 0 < r.polls = (h.held o is).0 in
      let m : (origin k r).poll ≡ r.polls - 1 = ap (λ (x : Origin). x.poll) (origin_held k r o is) in
      record {
        transport = h.transport;
        unheld = λ e. refl;
        below = subst (All (λ n. n < r.polls)) (sym (polls_joined k ms ds t ∙ ap (λ (ns : List ℕ). polls_of k (in_order t) ++ ns) (polls_same k (origin k r) refl)))
            (All-append (λ n. n < r.polls) (polls_of k (in_order t)) ((origin k r).poll ∷ [])
            (All-weaker (λ n. n < (origin k r).poll) (λ n. n < r.polls) (λ n lt. omega arith) (polls_of k (in_order t)) h.below)
            (below_one (origin k r).poll r.polls (omega arith)));
        held = λ x e. cc;
        somewhere = λ n lt ne. somewhere_on answers k r (record r { held = None }) t (waits_with ms ds t) (poll_of k r n) (joined_on ms ds t)
            (λ x. inr (inl (at_right t.waiting ms (Some (poll_of k r n)) (0, ap (λ (y : Origin). Some (Some y)) (sym x.1)))))
            (h.somewhere n lt ne);
      }

  -- ---- the polls of all, with the next one of a request

  rises_case : (stream : Bool) (k j : ℕ) (r : SlateRequest) (t : Trail) → Asks answers stream k r t → ((i : ℕ) → IsRising (polls_of i (in_order t))) → (j ≡ k) ⊎ (j ≢ k) → IsRising (polls_of j (in_order t) ++ polls_of j (Some (origin k r) ∷ []))
  rises_case stream k j r t h rises x =
      ⊎_elim
      (λ (e : j ≡ k). subst (λ (i : ℕ). IsRising (polls_of i (in_order t) ++ polls_of i (Some (origin k r) ∷ []))) (sym e)
      (subst (λ (ns : List ℕ). IsRising (polls_of k (in_order t) ++ ns)) (sym (polls_same k (origin k r) refl)) (rising_push (polls_of k (in_order t)) (origin k r).poll (rises k) h.below)))
      (λ (ne : j ≢ k). subst (λ (ns : List ℕ). IsRising (polls_of j (in_order t) ++ ns)) (sym (others_none k j r ne)) (subst IsRising (sym (append-nil (polls_of j (in_order t)))) (rises j)))
      x

  pub rises_with : (stream : Bool) (k : ℕ) (r : SlateRequest) (t : Trail) → Asks answers stream k r t → ((i : ℕ) → IsRising (polls_of i (in_order t))) → (j : ℕ) → IsRising (polls_of j (in_order t) ++ polls_of j (Some (origin k r) ∷ []))
  rises_with stream k r t h rises j = rises_case stream k j r t h rises (cases_eq j k)

  -- ---- all requests, of which one turned

  turned_case : (stream : Bool) (k j : ℕ) (rs : List SlateRequest) (r r' : SlateRequest) (t u : Trail) → slice_get rs k ≡ Some r → AsksAll answers stream rs t → Asks answers stream k r' u → (j ≢ k → polls_of j (in_order u) ≡ polls_of j (in_order t)) → GoesOn t u → (j ≡ k) ⊎ (j ≢ k) → AsksAt answers stream j (slice_get (slice_set rs k r') j) u
  turned_case stream k j rs r r' t u at h asks others g x =
      ⊎_elim
      (λ (e : j ≡ k). subst (λ (i : ℕ). AsksAt answers stream i (slice_get (slice_set rs k r') i) u) (sym e)
      (subst (λ (y : Option SlateRequest). AsksAt answers stream k y u) (sym (get_set_same rs k r r' at)) asks))
      (λ (ne : j ≢ k). subst (λ (y : Option SlateRequest). AsksAt answers stream j y u) (sym (get_set_other rs k j r' ne)) (asks_on answers stream j (slice_get rs j) t u (others ne) g (h j)))
      x

  pub turned : (stream : Bool) (k : ℕ) (rs : List SlateRequest) (r r' : SlateRequest) (t u : Trail) → slice_get rs k ≡ Some r → AsksAll answers stream rs t → Asks answers stream k r' u → ((j : ℕ) → j ≢ k → polls_of j (in_order u) ≡ polls_of j (in_order t)) → GoesOn t u → AsksAll answers stream (slice_set rs k r') u
  turned stream k rs r r' t u at h asks others g = λ j. turned_case stream k j rs r r' t u at h asks (others j) g (cases_eq j k)
