-- Upstreams at whose first polls nothing arrives.
use Rattle.std.proofs.Common.{◌≡◌, ℕ, zero, suc, ◌+◌, ◌<◌, ◌≤◌, Bool, true, false, List, [], ◌++◌, nat_lt, refl, ap, subst, ◌∙◌, arith}
use Rattle.std.proofs.lemmas.Bool.Decides.{nat_tests}
use Rattle.dns_forward.specs.Asked.{asked, led_to}
use Rattle.dns_forward.specs.declared.asking_event.AskingEvent.{AskingEvent}
use Rattle.dns_service.specs.declared.service.Polled.TheVariants.{Pending}
use Rattle.dns_script.specs.Upstreams.{PendFirst, answered_at, events_to, sent_id, word_events, word_of_poll}
use Rattle.dns_script.specs.declared.upstream.UpstreamWord.{UpstreamWord}
use Rattle.dns_script.specs.declared.upstream.UpstreamWord.TheVariants.{Pend}

below : (a b : ℕ) → nat_lt a b ≡ true → a < b
below a b h = grind (arith, nat_tests)

not_below : (a b : ℕ) → nat_lt a b ≡ false → b ≤ a
not_below a b h = grind (arith, nat_tests)

-- one word more
pub next_pend : (words : List UpstreamWord) (n : ℕ) → PendFirst words n → word_of_poll words n ≡ Pend → PendFirst words (n + 1)
next_pend words n h here = λ k lt. by_test k lt (nat_lt k n) refl
  where
    by_test : (k : ℕ) → k < n + 1 → (b : Bool) → nat_lt k n ≡ b → word_of_poll words k ≡ Pend
    by_test k lt true e = h k (below k n e)
    by_test k lt false e =
        let same : n ≡ k = omega (arith, not_below k n e, lt) in
        subst (λ (i : ℕ). word_of_poll words i ≡ Pend) same here

no_events : (id : ℕ) (o : List ℕ) (words : List UpstreamWord) (n k : ℕ) → PendFirst words n → k < n → events_to id o words k ≡ []
no_events id o words n zero h lt = ap (word_events id o) (h zero lt)
no_events id o words n (suc k) h lt =
    let before : events_to id o words k ≡ [] = no_events id o words n k h (omega (arith, lt)) in
    let here : word_events id o (word_of_poll words (suc k)) ≡ [] = ap (word_events id o) (h (suc k) lt) in
    ap (λ (es : List AskingEvent). es ++ word_events id o (word_of_poll words (suc k))) before ∙ here

-- nothing is answered at such a poll
pub still_pending : (words : List UpstreamWord) (o : List ℕ) (n k : ℕ) → PendFirst words n → k < n → answered_at words o k ≡ Pending
still_pending words o n k h lt = ap (λ (es : List AskingEvent). led_to (asked o (sent_id o) 2 1 0 es)) (no_events (sent_id o) o words n k h lt)
