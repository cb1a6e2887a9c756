-- What is kept of the requests after a poll, and with one more.
use Rattle.dns_session.specs.Serving.{Serving}
use Rattle.std.proofs.Common.{◌≡◌, ◌≢◌, ℕ, zero, suc, ◌+◌, ◌<◌, ◌≤◌, List, [], ◌∷◌, ◌++◌, length, Option, Some, None, Bool, true, false, refl, ap, sym, ◌∙◌, arith, set, ⊎_elim, ◌⊎◌, inl, inr, length-append}
use Rattle.std.specs.Arc.{arc_value}
use Rattle.std.specs.Prelude.{slice_get}
use Rattle.std.proofs.lemmas.Bool.{cases_eq, cases_lt}
use Rattle.std.proofs.lemmas.Option.{slice_get_within, slice_get_past}
use Rattle.circular_buffer.proofs.Places.{slice_get-set_same, slice_get-set_other, slice_get-append_left, slice_get-last}
use Rattle.dns_base.specs.Msg.{Msg}
use Rattle.dns_framing.specs.Answer.{Answer}
use Rattle.dns_framing.specs.Polls.{PolledRequest}
use Rattle.dns_session.specs.Slate.{SlateRequest}
use Rattle.dns_session.specs.Turns.{polled, ends, limit_for, reply_to, sent_for}
use Rattle.dns_session.specs.IsPolled.{IsPolled}
use Rattle.dns_session.specs.Unfinished.{request_at}
use Rattle.dns_session.specs.Goings.{unless_done}
use Rattle.dns_session.specs.Stands.{IsKeptOfRequest, Keeps, KeepsGoing, sole}
use Rattle.dns_session.specs.declared.connection_request.ConnectionRequest.{ConnectionRequest}
use Rattle.dns_session.specs.declared.kept.KeptRequest.{KeptRequest}
use Rattle.dns_session.specs.declared.unfinished.Unfinished.{Unfinished}

below_or_above : (a b : ℕ) → a ≢ b → (a < b) ⊎ (b < a)
below_or_above a b ne = ⊎_elim (λ (h : a < b). inl h) (λ (h : b ≤ a). inr (omega arith)) (cases_lt a b)

module _ {F R : Type 0} (answer : PolledRequest F R → ℕ → Answer) (answers : Serving) where
  -- what a poll finds, and what is kept after it
  pub record Found (x : Option SlateRequest) (reply : Option Msg) (new : Option (KeptRequest F R)) : Type 0 where
    pub r : SlateRequest
    pub is : x ≡ Some r
    pub open_yet : r.done ≡ false
    pub says : reply ≡ sent_for answers r.request (answers.answer r.request r.polls)
    pub keeps : Keeps answer answers new (Some (polled (answers.answer r.request r.polls) r))

  later : (q q' : KeptRequest F R) (r : SlateRequest) → ((k : ℕ) → answer q'.polled k ≡ answer q.polled (suc k)) → IsKeptOfRequest answer answers q r → (j : ℕ) → answer q'.polled j ≡ answers.answer r.request (r.polls + 1 + j)
  later q q' r p k j = let e : r.polls + suc j ≡ r.polls + 1 + j = omega arith in p j ∙ k.polled (suc j) ∙ ap (answers.answer r.request) e

  now : (q : KeptRequest F R) (r : SlateRequest) → IsKeptOfRequest answer answers q r → answer q.polled 0 ≡ answers.answer r.request r.polls
  now q r k = let e : r.polls + 0 ≡ r.polls = omega arith in k.polled 0 ∙ ap (answers.answer r.request) e

  left_keeps : (q q' : KeptRequest F R) (r : SlateRequest) (a : Answer) (reply : Option Msg) (done : Bool) → ends a ≡ done → IsPolled answer q reply done q' → IsKeptOfRequest answer answers q r → Keeps answer answers (unless_done done q') (Some (polled a r))
  left_keeps q q' r a reply true e p k = e
  left_keeps q q' r a reply false e p k = record { going = e; polled = later q q' r p.polled k; message = ap arc_value p.message ∙ k.message; limit = p.limit ∙ k.limit }

  -- the reply by what is kept is the one by the request
  same_reply : (q : KeptRequest F R) (r : SlateRequest) → IsKeptOfRequest answer answers q r → reply_to q.limit (arc_value q.message) (answer q.polled 0) ≡ sent_for answers r.request (answers.answer r.request r.polls)
  same_reply q r k =
      ap (λ (n : Option ℕ). reply_to n (arc_value q.message) (answer q.polled 0)) k.limit
      ∙ (ap (λ (o : List ℕ). reply_to (limit_for answers r.request) o (answer q.polled 0)) k.message
      ∙ ap (λ (a : Answer). reply_to (limit_for answers r.request) r.request.octets a) (now q r k))

  pub found : (q q' : KeptRequest F R) (x : Option SlateRequest) (reply : Option Msg) (done : Bool) → Keeps answer answers (Some q) x → IsPolled answer q reply done q' → Found x reply (unless_done done q')
  found q q' None reply done k p = absurd k
  found q q' (Some r) reply done k p = record {
    r = r;
    is = refl;
    open_yet = k.going;
    says = p.says ∙ same_reply q r k;
    keeps = left_keeps q q' r (answers.answer r.request r.polls) reply done (ap ends (sym (now q r k)) ∙ sym p.ended) p k;
  }

  -- a place that is written
  pub keeps_set : (old new : Unfinished (ConnectionRequest F R)) (rs : List SlateRequest) (k : ℕ) (r r' : SlateRequest)
      → slice_get rs k ≡ Some r
      → ((q : ℕ) → KeepsGoing answer answers (request_at old q) (slice_get rs q))
      → ((q : ℕ) → q ≢ k → request_at new q ≡ request_at old q)
      → KeepsGoing answer answers (request_at new k) (Some r')
      → (q : ℕ) → KeepsGoing answer answers (request_at new q) (slice_get (set rs k r') q)
  keeps_set old new rs k r r' e each others here q =
      ⊎_elim
      (λ (same : q ≡ k). let w = slice_get-set_same rs k r' (slice_get_within rs k r e) in rw (same, w) here)
      (λ (apart : q ≢ k). let w = slice_get-set_other rs k q r' apart in rw (w, others q apart) (each q))
      (cases_eq q k)

  -- one more request
  pub keeps_push : (old new : Unfinished (ConnectionRequest F R)) (rs : List SlateRequest) (k : ℕ) (r : SlateRequest) (f : ConnectionRequest F R)
      → k ≡ length rs
      → ((q : ℕ) → KeepsGoing answer answers (request_at old q) (slice_get rs q))
      → ((q : ℕ) → q ≢ k → request_at new q ≡ request_at old q)
      → request_at new k ≡ Some f
      → KeepsGoing answer answers (Some f) (Some r)
      → (q : ℕ) → KeepsGoing answer answers (request_at new q) (slice_get (rs ++ r ∷ []) q)
  keeps_push old new rs k r f e each others here kept q =
      ⊎_elim
      (λ (same : q ≡ k). let w = slice_get-last rs r k e in rw (same, w, here) kept)
      (λ (apart : q ≢ k).
      ⊎_elim
      (λ (below : q < length rs). let w = slice_get-append_left rs (r ∷ []) q below in rw (w, others q apart) (each q))
      (λ (above : length rs < q).
      let past : slice_get rs q ≡ None = slice_get_past rs q (omega arith) in
      let past' : slice_get (rs ++ r ∷ []) q ≡ None = slice_get_past (rs ++ r ∷ []) q (omega (arith, length-append rs (r ∷ []))) in
      let h : KeepsGoing answer answers (request_at old q) None = rw past at (each q) in
      rw (past', others q apart) h)
      (below_or_above q (length rs) (λ (x : q ≡ length rs). apart (x ∙ sym e))))
      (cases_eq q k)

  -- the one request of an exchange
  pub sole_set : (old new : Option (KeptRequest F R)) (rs : List SlateRequest) (r r' : SlateRequest)
      → slice_get rs 0 ≡ Some r
      → ((k : ℕ) → Keeps answer answers (sole old k) (slice_get rs k))
      → Keeps answer answers new (Some r')
      → (k : ℕ) → Keeps answer answers (sole new k) (slice_get (set rs 0 r') k)
  sole_set old new rs r r' e each here zero = let w = slice_get-set_same rs 0 r' (slice_get_within rs 0 r e) in rw w here
  sole_set old new rs r r' e each here (suc k) = let w = slice_get-set_other rs 0 (suc k) r' (λ (same : suc k ≡ 0). absurd (omega arith)) in rw w (each (suc k))

  pub none_sole : (k : ℕ) → Keeps answer answers (sole None k) None
  none_sole zero = tt
  none_sole (suc k) = tt
