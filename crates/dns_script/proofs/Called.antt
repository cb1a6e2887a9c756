-- The calls of a cache for one question.
use Rattle.std.proofs.Common.{◌≡◌, ℕ, zero, suc, ◌+◌, ◌-◌, ◌<◌, ◌≤◌, List, length, nat_le, refl, ap, sym, ◌∙◌, inl, inr, arith}
use Rattle.std.specs.Prelude.{Option, Some, None, Result, OnErr, Ok, Err, codes, true}
use Rattle.std.proofs.lemmas.Bool.{le-leb}
use Rattle.dns_base.specs.Msg.{Msg}
use Rattle.dns_base.specs.Wire.{wire}
use Rattle.dns_cache.specs.AskedCache.{AnswersCached, Cached}
use Rattle.dns_cache.specs.Calls.{TurnAnswers, called}
use Rattle.dns_route.specs.Turns.{TurnAnswer}
use Rattle.dns_service.specs.Req.{Req}
use Rattle.dns_script.specs.CachedRules.{IsAtCall, IsBehindCalls, call_behind, call_text, called_from, calls_behind, first_ready, or_later, turn_text}

-- the line of what a call answered is that of the message out of the cache, or of what the service answered
pub answered : (cached : Option Msg) (answer given : TurnAnswer) → AnswersCached cached answer given → turn_text given ≡ call_text cached answer
answered None answer given h = ap turn_text h
answered (Some m) answer given h =
    let fitting : nat_le (length (wire m)) 65535 ≡ true = le-leb (length (wire m)) 65535 h.3 in
    rw (h.1, h.2, fitting) refl

-- what an error says, if it holds anyway
pub on_err : {T E Q : Type 0} (r : Result T E) → Q → OnErr r Q
on_err (Ok x) q = tt
on_err (Err e) q = q

more_from : (k : ℕ) → k < 1000 → 1000 - k ≡ suc (1000 - (k + 1))
more_from k lt = omega arith

module _ (answers : TurnAnswers) (r : Req (Unit {0})) where
  unrolled : (k : ℕ) (c : Cached) → k < 1000
      → called_from answers r (1000 - k) k c
      ≡ or_later (call_text (called answers c (record { request = r; k = k })).cached (answers r k)) (called answers c (record { request = r; k = k })).behind
      (called_from answers r (1000 - (k + 1)) (k + 1) (called answers c (record { request = r; k = k })).behind)
  unrolled k c lt = ap (λ n. called_from answers r n k c) (more_from k lt)

  -- before the first call
  pub called_first : (c : Cached) → called_from answers r (1000 - 0) 0 c ≡ first_ready answers r c
  unfolding first_ready
  called_first c = refl

  -- after a call that isn't ready
  pub called_on : (k : ℕ) (c d start : Cached) → k < 1000 → call_text (called answers c (record { request = r; k = k })).cached (answers r k) ≡ None
      → d ≡ (called answers c (record { request = r; k = k })).behind → called_from answers r (1000 - k) k c ≡ first_ready answers r start
      → called_from answers r (1000 - (k + 1)) (k + 1) d ≡ first_ready answers r start
  called_on k c d start lt none is all =
      let on : called_from answers r (1000 - k) k c ≡ called_from answers r (1000 - (k + 1)) (k + 1) d = unrolled k c lt ∙ rw (none, is) refl in
      sym on ∙ all

  -- a call that is ready
  pub called_ready : (k : ℕ) (c d start : Cached) (line : List ℕ) → k < 1000 → call_text (called answers c (record { request = r; k = k })).cached (answers r k) ≡ Some line
      → d ≡ (called answers c (record { request = r; k = k })).behind → called_from answers r (1000 - k) k c ≡ first_ready answers r start
      → first_ready answers r start ≡ record { line = line; behind = d }
  called_ready k c d start line lt some is all = sym all ∙ (unrolled k c lt ∙ rw (some, is) refl)

  -- no call was ready
  pub called_out : (k : ℕ) (c start : Cached) → 1000 ≤ k → called_from answers r (1000 - k) k c ≡ first_ready answers r start
      → first_ready answers r start ≡ record { line = codes "pending\n"; behind = c }
  called_out k c start le all =
      let none : 1000 - k ≡ 0 = omega arith in
      sym all ∙ ap (λ n. called_from answers r n k c) none

  -- the last of several calls
  last_call : (n k : ℕ) (c : Cached) → calls_behind answers r (suc n) k c ≡ call_behind answers r (k + n) (calls_behind answers r n k c)
  last_call zero k c =
      let e : k ≡ k + 0 = omega arith in
      ap (λ (j : ℕ). call_behind answers r j c) e
  last_call (suc n) k c =
      let e : k + 1 + n ≡ k + suc n = omega arith in
      last_call n (k + 1) (call_behind answers r k c) ∙ ap (λ (j : ℕ). call_behind answers r j (calls_behind answers r (suc n) k c)) e

  -- one call more
  pub behind_more : (k : ℕ) (c d start : Cached) → c ≡ calls_behind answers r k 0 start → d ≡ call_behind answers r k c → d ≡ calls_behind answers r (k + 1) 0 start
  behind_more k c d start all is =
      let e : 0 + k ≡ k = omega arith in
      let f : suc k ≡ k + 1 = omega arith in
      is
      ∙ (ap (call_behind answers r k) all
      ∙ (ap (λ (j : ℕ). call_behind answers r j (calls_behind answers r k 0 start)) (sym e)
      ∙ (sym (last_call k 0 start) ∙ ap (λ (j : ℕ). calls_behind answers r j 0 start) f)))

  -- a call that had no memory
  pub stopped : (k : ℕ) (c d start : Cached) → k < 1000 → c ≡ calls_behind answers r k 0 start → IsAtCall answers r k c d → IsBehindCalls answers r start d
  stopped k c d start lt all (inl is) = record { calls = k; few = omega arith; behind = is ∙ all }
  stopped k c d start lt all (inr is) = record { calls = k + 1; few = omega arith; behind = behind_more k c d start all is }
