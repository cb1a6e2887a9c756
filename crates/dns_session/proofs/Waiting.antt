-- The numbers under which requests are kept are those of the requests that aren't done.
use Rattle.dns_session.specs.Serving.{Serving}
use Rattle.std.proofs.Common.{◌≡◌, ℕ, zero, suc, ◌+◌, ◌-◌, ◌<◌, ◌≤◌, List, [], ◌∷◌, drop, Option, Some, None, Bool, true, false, refl, ap, sym, ◌∙◌, arith, subst, zero-add}
use Rattle.std.specs.Prelude.{slice_get, is_some, not}
use Rattle.std.proofs.lemmas.Bool.{not-false, not-true}
use Rattle.dns_framing.specs.Answer.{Answer}
use Rattle.dns_framing.specs.Polls.{PolledRequest}
use Rattle.dns_session.specs.Slate.{Slate, SlateRequest}
use Rattle.dns_session.specs.Stands.{IsOpen, Keeps, KeepsGoing, StandsIn, sole, sole_number}
use Rattle.dns_session.specs.Unfinished.{IsFirstFrom, request_at}
use Rattle.dns_session.specs.Waiting.{first_unfinished, first_unfinished_from, next_unfinished}
use Rattle.dns_session.specs.declared.client.State.{State}
use Rattle.dns_session.specs.declared.client.State.TheVariants.{Exchange as Is_exchange, Open as Is_open}
use Rattle.dns_session.specs.declared.connection.OpenConnection.{OpenConnection}
use Rattle.dns_session.specs.declared.connection_request.ConnectionRequest.{ConnectionRequest}
use Rattle.dns_session.specs.declared.kept.KeptRequest.{KeptRequest}

abbrev pub is_going : Option SlateRequest → Bool
is_going None = false
is_going (Some r) = not r.done

from_none : (n : ℕ) (rs : List SlateRequest) → ((k : ℕ) → is_going (slice_get rs k) ≡ false) → first_unfinished_from n rs ≡ None
from_none n [] h = refl
from_none n (r ∷ rs) h = let d : r.done ≡ true = not-false r.done (h 0) in rw d (from_none (n + 1) rs (λ k. h (suc k)))

from_some : (n : ℕ) (rs : List SlateRequest) (k : ℕ) → is_going (slice_get rs k) ≡ true → ((j : ℕ) → j < k → is_going (slice_get rs j) ≡ false) → first_unfinished_from n rs ≡ Some (n + k)
from_some n [] k g h = cc
from_some n (r ∷ rs) zero g h = let d : r.done ≡ false = not-true r.done g in let e : n ≡ n + 0 = omega arith in rw d (ap Some e)
from_some n (r ∷ rs) (suc k) g h =
    let d : r.done ≡ true = not-false r.done (h 0 (omega arith)) in
    let e : (n + 1) + k ≡ n + suc k = omega arith in
    rw d (from_some (n + 1) rs k g (λ j l. h (suc j) (omega (arith, l))) ∙ ap Some e)

-- what is kept, by number, is what isn't done
abbrev pub Agrees : {X : Type 0} → (ℕ → Option X) → List SlateRequest → Type 0
Agrees kept rs = (k : ℕ) → is_some (kept k) ≡ is_going (slice_get rs k)

get_drop : (n j : ℕ) (rs : List SlateRequest) → slice_get (drop n rs) j ≡ slice_get rs (n + j)
get_drop zero j rs = ap (slice_get rs) (sym (zero-add j))
get_drop (suc n) j [] = refl
get_drop (suc n) j (r ∷ rs) = let e : suc (n + j) ≡ suc n + j = omega arith in get_drop n j rs ∙ ap (slice_get (r ∷ rs)) e

pub first_is : {X : Type 0} (kept : ℕ → Option X) (rs : List SlateRequest) (o : Option ℕ) → Agrees kept rs → IsFirstFrom 0 kept o → o ≡ first_unfinished rs
first_is kept rs None same h = sym (from_none 0 rs (λ k. sym (same k) ∙ ap is_some (h k (omega arith))))
first_is kept rs (Some m) same h =
    sym (from_some 0 rs m (sym (same m) ∙ h.1) (λ j l. sym (same j) ∙ ap is_some (h.2 j (omega arith) l)) ∙ ap Some (zero-add m))

pub next_is : {X : Type 0} (kept : ℕ → Option X) (rs : List SlateRequest) (n : ℕ) (o : Option ℕ) → Agrees kept rs → IsFirstFrom (n + 1) kept o → o ≡ next_unfinished n rs
next_is kept rs n None same h =
    sym (from_none (n + 1) (drop (n + 1) rs) (λ j.
    let q = (n + 1) + j in
    ap is_going (get_drop (n + 1) j rs) ∙ sym (same q) ∙ ap is_some (h q (omega arith))))
next_is kept rs n (Some k) same h =
    let l : n + 1 ≤ k = h.0 in
    let d = k - (n + 1) in
    let at_k : (n + 1) + d ≡ k = omega (arith, l) in
    let going : is_going (slice_get (drop (n + 1) rs) d) ≡ true = ap is_going (get_drop (n + 1) d rs ∙ ap (slice_get rs) at_k) ∙ sym (same k) ∙ h.1 in
    let none : (j : ℕ) → j < d → is_going (slice_get (drop (n + 1) rs) j) ≡ false = λ j lj.
    let q = (n + 1) + j in
    ap is_going (get_drop (n + 1) j rs) ∙ sym (same q) ∙ ap is_some (h.2 q (omega arith) (omega (arith, lj, l))) in
    sym (from_some (n + 1) (drop (n + 1) rs) d going none ∙ ap Some at_k)

module _ {R F : Type 0} (answer : PolledRequest F R → ℕ → Answer) (answers : Serving) where
  pub going_kept : (x : Option (ConnectionRequest F R)) (r : Option SlateRequest) → KeepsGoing answer answers x r → is_some x ≡ is_going r
  going_kept None None h = refl
  going_kept None (Some r) h = rw h refl
  going_kept (Some q) None h = absurd h
  going_kept (Some q) (Some r) h = rw h.going refl

  kept : (x : Option (KeptRequest F R)) (r : Option SlateRequest) → Keeps answer answers x r → is_some x ≡ is_going r
  kept None None h = refl
  kept None (Some r) h = rw h refl
  kept (Some q) None h = absurd h
  kept (Some q) (Some r) h = rw h.going refl

  sole_none : (k : ℕ) → sole {Q = KeptRequest F R} None k ≡ None
  sole_none zero = refl
  sole_none (suc k) = refl

  -- of an exchange, whose one request has number 0
  pub exchange_first : (q : KeptRequest F R) (rs : List SlateRequest) → ((k : ℕ) → Keeps answer answers (sole (Some q) k) (slice_get rs k)) → Some 0 ≡ first_unfinished rs
  exchange_first q rs h = sym (from_some 0 rs 0 (sym (kept (Some q) (slice_get rs 0) (h 0))) (λ j l. let z : ⊥ = omega (arith, l) in absurd z))

  pub exchange_none : (rs : List SlateRequest) → ((k : ℕ) → Keeps answer answers (sole None k) (slice_get rs k)) → None ≡ first_unfinished rs
  exchange_none rs h = sym (from_none 0 rs (λ k. sym (kept (sole None k) (slice_get rs k) (h k)) ∙ ap is_some (sole_none k)))

  pub exchange_next : (n : ℕ) (x : Option (KeptRequest F R)) (rs : List SlateRequest) → ((k : ℕ) → Keeps answer answers (sole x k) (slice_get rs k)) → None ≡ next_unfinished n rs
  exchange_next n x rs h = sym (from_none (n + 1) (drop (n + 1) rs) (λ j. let e : (n + 1) + j ≡ suc (n + j) = omega arith in ap is_going (get_drop (n + 1) j rs ∙ ap (slice_get rs) e) ∙ sym (kept None (slice_get rs (suc (n + j))) (h (suc (n + j))))))

  sole_first : (x : Option (KeptRequest F R)) (rs : List SlateRequest) → ((k : ℕ) → Keeps answer answers (sole x k) (slice_get rs k)) → sole_number x ≡ first_unfinished rs
  sole_first None rs h = exchange_none rs h
  sole_first (Some q) rs h = exchange_first q rs h

  module _ {W : Type 0} where
    pub agrees : (client : ℕ) (c : OpenConnection W R F) (s : Slate) → IsOpen answer answers client c s → Agrees (request_at c.unfinished) s.requests
    agrees client c s h k = going_kept (request_at c.unfinished k) (slice_get s.requests k) (h.requests.each k)

    -- by the state of a core
    pub exchange_at : (n : ℕ) (state : State W R F) (x : Option (KeptRequest F R)) (s : Slate) → state ≡ Is_exchange x → StandsIn answer answers n state s → sole_number x ≡ first_unfinished s.requests
    exchange_at n state x s is h =
        let e = subst (λ (st : State W R F). StandsIn answer answers n st s) is h in
        sole_first x s.requests e.requests

    pub exchange_behind : (request n : ℕ) (state : State W R F) (x : Option (KeptRequest F R)) (s : Slate) → state ≡ Is_exchange x → StandsIn answer answers n state s → None ≡ next_unfinished request s.requests
    exchange_behind request n state x s is h =
        let e = subst (λ (st : State W R F). StandsIn answer answers n st s) is h in
        exchange_next request x s.requests e.requests

    pub of_open : (n : ℕ) (state : State W R F) (c : OpenConnection W R F) (s : Slate) → state ≡ Is_open c → StandsIn answer answers n state s → IsOpen answer answers n c s
    of_open n state c s is h = subst (λ (st : State W R F). StandsIn answer answers n st s) is h
