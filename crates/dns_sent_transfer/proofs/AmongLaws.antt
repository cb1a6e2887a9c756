-- Replies that went, each to a poll of one request, stand in order among all that was sent.
use Rattle.std.proofs.Common.{◌≡◌, ◌<◌, ℕ, zero, suc, ◌+◌, inl, inr, Bool, true, false, List, [], ◌∷◌, Option, Some, None, refl, ap, sym, subst, ◌∙◌, arith}
use Rattle.std.specs.Prelude.{◌==◌, slice_get, if◌then◌else◌}
use Rattle.std.specs.List.{All}
use Rattle.std.proofs.lemmas.Bool.{eq-eqb}
use Rattle.std.proofs.lemmas.List.Elements.{All-head, All-tail}
use Rattle.dns_events.specs.declared.event.Output.{Output}
use Rattle.dns_events.specs.declared.event.Output.TheVariants.{Datagram, Frame, Closed, TurnedAway}
use Rattle.dns_session.specs.Serving.{Serving}
use Rattle.dns_session.specs.Slate.{SlateRequest}
use Rattle.dns_core.specs.Trails.{Origin, AreFrom, IsFrom, IsRising, messages_sent, poll_of, polls_of, reply_at}
use Rattle.dns_core.proofs.Origins.{At, at_split}
use Rattle.dns_sent_transfer.specs.SentTransfers.{AreAmong, octets_sent}

-- ---- the polls of a request among others

rising_step : (b : Bool) (n : ℕ) (ns : List ℕ) → IsRising (if b then n ∷ ns else ns) → IsRising ns
rising_step true n ns h = h.1
rising_step false n ns h = h

rising_behind : (k : ℕ) (w : Option Origin) (ws : List (Option Origin)) → IsRising (polls_of k (w ∷ ws)) → IsRising (polls_of k ws)
rising_behind k None ws h = h
rising_behind k (Some m) ws h = rising_step (m.request == k) m.poll (polls_of k ws) h

-- those after a poll are later
later : (k : ℕ) (r : SlateRequest) (n : ℕ) (w : Option Origin) (ws : List (Option Origin)) → w ≡ Some (poll_of k r n) → IsRising (polls_of k (w ∷ ws)) → All (λ (m : ℕ). n < m) (polls_of k ws)
later k r n w ws e h =
    let f : IsRising (if k == k then n ∷ polls_of k ws else polls_of k ws) = subst (λ (x : Option Origin). IsRising (polls_of k (x ∷ ws))) e h in
    let g : IsRising (n ∷ polls_of k ws) = subst (λ (b : Bool). IsRising (if b then n ∷ polls_of k ws else polls_of k ws)) (eq-eqb k k refl) f in
    g.0

all_step : (P : ℕ → Type 0) (b : Bool) (n : ℕ) (ns : List ℕ) → All P (if b then n ∷ ns else ns) → All P ns
all_step P true n ns h = All-tail P n ns h
all_step P false n ns h = h

-- what holds of all polls of a request holds of one that stands there
holds_at : (P : ℕ → Type 0) (k : ℕ) (r : SlateRequest) (n : ℕ) (ws : List (Option Origin)) (i : ℕ) → slice_get ws i ≡ Some (Some (poll_of k r n)) → All P (polls_of k ws) → P n
holds_at P k r n [] i at h = absurd (cc)
holds_at P k r n (w ∷ ws) zero at h =
    let e : w ≡ Some (poll_of k r n) = cc in
    let f : All P (if k == k then n ∷ polls_of k ws else polls_of k ws) = subst (λ (x : Option Origin). All P (polls_of k (x ∷ ws))) e h in
    All-head P n (polls_of k ws) (subst (λ (b : Bool). All P (if b then n ∷ polls_of k ws else polls_of k ws)) (eq-eqb k k refl) f)
holds_at P k r n (None ∷ ws) (suc i) at h = holds_at P k r n ws i at h
holds_at P k r n (Some m ∷ ws) (suc i) at h = holds_at P k r n ws i at (all_step P (m.request == k) m.poll (polls_of k ws) h)

-- ---- octets among what is sent

one_more : (os : List (List ℕ)) (out : Output) (outs : List Output) → AreAmong os (octets_sent outs) → AreAmong os (octets_sent (out ∷ outs))
one_more [] out outs h = tt
one_more (o ∷ os) (Frame c m) outs h = inr h
one_more (o ∷ os) (Datagram c m) outs h = inr h
one_more (o ∷ os) (Closed c why) outs h = h
one_more (o ∷ os) (TurnedAway c accepted) outs h = h

-- those of messages
pub octets_of_messages : (outs : List Output) → octets_sent (messages_sent outs) ≡ octets_sent outs
octets_of_messages [] = refl
octets_of_messages (Frame c o ∷ outs) = ap (λ (os : List (List ℕ)). o ∷ os) (octets_of_messages outs)
octets_of_messages (Datagram c o ∷ outs) = ap (λ (os : List (List ℕ)). o ∷ os) (octets_of_messages outs)
octets_of_messages (Closed c why ∷ outs) = octets_of_messages outs
octets_of_messages (TurnedAway c accepted ∷ outs) = octets_of_messages outs

module _ (answers : Serving) (k : ℕ) (r : SlateRequest) where
  same_reply : (m : Origin) (g o : List ℕ) → reply_at answers m ≡ Some g → reply_at answers m ≡ Some o → o ≡ g
  same_reply m g o e f = let i : Some o ≡ Some g = sym f ∙ e in cc

  -- a message that is the reply to a poll, and others after it
  first_among : (m : Origin) (g : List ℕ) (gs : List (List ℕ)) (out : Output) (outs : List Output) → IsFrom answers (Some m) out → reply_at answers m ≡ Some g → AreAmong gs (octets_sent outs) → AreAmong (g ∷ gs) (octets_sent (out ∷ outs))
  first_among m g gs (Frame c o) outs from e h = inl (same_reply m g o e from, h)
  first_among m g gs (Datagram c o) outs from e h = inl (same_reply m g o e from, h)
  first_among m g gs (Closed c why) outs from e h = absurd from
  first_among m g gs (TurnedAway c accepted) outs from e h = absurd from

  -- replies to the polls from one on, each of which went
  pub record Went (j : ℕ) (gs : List (List ℕ)) (ws : List (Option Origin)) : Type 0 where
    pub reply : (n : ℕ) (g : List ℕ) → slice_get gs n ≡ Some g → reply_at answers (poll_of k r (j + n)) ≡ Some g
    pub at : (n : ℕ) (g : List ℕ) → slice_get gs n ≡ Some g → At ws (Some (poll_of k r (j + n)))

  poll_is : (n m : ℕ) (w : Option Origin) → w ≡ Some (poll_of k r n) → w ≡ Some (poll_of k r m) → n ≡ m
  poll_is n m w e f = let i : Some (poll_of k r n) ≡ Some (poll_of k r m) = sym e ∙ f in let p : poll_of k r n ≡ poll_of k r m = cc in ap (λ (x : Origin). x.poll) p

  -- after the first, if that is the reply to the first poll
  went_behind : (j : ℕ) (g : List ℕ) (gs : List (List ℕ)) (w : Option Origin) (ws : List (Option Origin)) → w ≡ Some (poll_of k r j) → Went j (g ∷ gs) (w ∷ ws) → Went (suc j) gs ws
  went_behind j g gs w ws e h = record {
    reply = λ n f i. let d : j + suc n ≡ suc j + n = omega arith in subst (λ (m : ℕ). reply_at answers (poll_of k r m) ≡ Some f) d (h.reply (suc n) f i);
    at = λ n f i.
        let d : j + suc n ≡ suc j + n = omega arith in
        subst (λ (m : ℕ). At ws (Some (poll_of k r m))) d
        (elim (at_split ws w (Some (poll_of k r (j + suc n))) (h.at (suc n) f i)) [
          | inl same ↦ absurd (let x : j ≡ j + suc n = poll_is j (j + suc n) w e same in omega arith)
          | inr rest ↦ rest
        ]);
  }

  -- or further on, if that isn't
  went_later : (j : ℕ) (g : List ℕ) (gs : List (List ℕ)) (w : Option Origin) (ws : List (Option Origin)) → IsRising (polls_of k (w ∷ ws)) → At ws (Some (poll_of k r j)) → Went j (g ∷ gs) (w ∷ ws) → Went j (g ∷ gs) ws
  went_later j g gs w ws rises here h = record {
    reply = h.reply;
    at = λ n f i. elim (at_split ws w (Some (poll_of k r (j + n))) (h.at n f i)) [
      | inl same ↦ absurd (let x : j + n < j = holds_at (λ (m : ℕ). j + n < m) k r j ws here.0 here.1 (later k r (j + n) w ws same rises) in omega arith)
      | inr rest ↦ rest
    ];
  }

  first_at : (j : ℕ) (g : List ℕ) (gs : List (List ℕ)) (ws : List (Option Origin)) → Went j (g ∷ gs) ws → At ws (Some (poll_of k r j)) × (reply_at answers (poll_of k r j) ≡ Some g)
  first_at j g gs ws h =
      let d : j + 0 ≡ j = omega arith in
      (subst (λ (m : ℕ). At ws (Some (poll_of k r m))) d (h.at 0 g refl), subst (λ (m : ℕ). reply_at answers (poll_of k r m) ≡ Some g) d (h.reply 0 g refl))

  pub among : (gs : List (List ℕ)) (j : ℕ) (ws : List (Option Origin)) (outs : List Output) → AreFrom answers ws outs → IsRising (polls_of k ws) → Went j gs ws → AreAmong gs (octets_sent outs)
  among [] j ws outs from rises h = tt
  among (g ∷ gs) j [] outs from rises h = absurd (let a = (first_at j g gs [] h).0 in let no : None ≡ Some (Some (poll_of k r j)) = a.1 in cc)
  among (g ∷ gs) j (w ∷ ws) [] from rises h = absurd from
  among (g ∷ gs) j (w ∷ ws) (out ∷ outs) from rises h =
      let first = first_at j g gs (w ∷ ws) h in
      elim (at_split ws w (Some (poll_of k r j)) first.0) [
        | inl e ↦ first_among (poll_of k r j) g gs out outs (subst (λ (x : Option Origin). IsFrom answers x out) e from.0) first.1 (among gs (suc j) ws outs from.1 (rising_behind k w ws rises) (went_behind j g gs w ws e h))
        | inr here ↦ one_more (g ∷ gs) out outs (among (g ∷ gs) j ws outs from.1 (rising_behind k w ws rises) (went_later j g gs w ws rises here h))
      ]
