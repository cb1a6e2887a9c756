-- Lists of polls that replies come from: those of one request among them, the messages and frames that come from them, and the
-- requests that these answer.
use Rattle.std.proofs.Common.{◌≡◌, ◌≢◌, ℕ, zero, suc, ◌+◌, ◌<◌, ◌≤◌, ◌⊎◌, inl, inr, true, false, Bool, List, [], ◌∷◌, ◌++◌, length, take, replicate, Option, Some, None, refl, ap, ◌∙◌, arith}
use Rattle.std.specs.Prelude.{IfSome, option_map, slice_get, slice_set, if◌then◌else◌, ◌==◌}
use Rattle.std.specs.List.{All}
use Rattle.std.proofs.Math.Seq.{take-append-add}
use Rattle.std.proofs.lemmas.Bool.{eq-eqb, ne_eqb}
use Rattle.std.proofs.lemmas.List.Elements.{All-nil, All-cons, All-head, All-tail}
use Rattle.dns_base.specs.Msg.{Msg}
use Rattle.dns_service.specs.Req.{Req}
use Rattle.dns_events.specs.declared.event.Output.{Output}
use Rattle.dns_events.specs.declared.event.Output.TheVariants.{Datagram, Frame, Closed, TurnedAway}
use Rattle.dns_session.specs.Serving.{Serving}
use Rattle.dns_session.specs.Turns.{limit_for, reply_to, sent_for}
use Rattle.dns_core.specs.ReplyTo.{Responds}
use Rattle.dns_core.specs.Trails.{Origin, AnswersRequest, AreAnswers, AreFrom, AreQueued, IsAnswer, IsFrom, IsRising, Refuses, on_wire, polls_of, queue_origins, reply_at}

-- ---- places

-- x stands somewhere in a list
abbrev pub At : {X : Type 0} → List X → X → Type 0
At xs x = (i : ℕ) × (slice_get xs i ≡ Some x)

get_left : {X : Type 0} (xs ys : List X) (i : ℕ) (x : X) → slice_get xs i ≡ Some x → slice_get (xs ++ ys) i ≡ Some x
get_left [] ys i x h = cc
get_left (y ∷ xs) ys zero x h = h
get_left (y ∷ xs) ys (suc i) x h = get_left xs ys i x h

pub at_left : {X : Type 0} (xs ys : List X) (x : X) → At xs x → At (xs ++ ys) x
at_left xs ys x h = (h.0, get_left xs ys h.0 x h.1)

pub at_right : {X : Type 0} (xs ys : List X) (x : X) → At ys x → At (xs ++ ys) x
at_right [] ys x h = h
at_right (y ∷ xs) ys x h = let more = at_right xs ys x h in (suc more.0, more.1)

at_split_case : {X : Type 0} (xs : List X) (y x : X) (i : ℕ) → slice_get (y ∷ xs) i ≡ Some x → (y ≡ x) ⊎ At xs x
at_split_case xs y x zero h = inl (cc)
at_split_case xs y x (suc i) h = inr (i, h)

pub at_split : {X : Type 0} (xs : List X) (y x : X) → At (y ∷ xs) x → (y ≡ x) ⊎ At xs x
at_split xs y x h = at_split_case xs y x h.0 h.1

-- the element that is set, and the others
pub get_set_same : {X : Type 0} (xs : List X) (k : ℕ) (x y : X) → slice_get xs k ≡ Some x → slice_get (slice_set xs k y) k ≡ Some y
get_set_same [] k x y h = cc
get_set_same (z ∷ xs) zero x y h = refl
get_set_same (z ∷ xs) (suc k) x y h = get_set_same xs k x y h

pub get_set_other : {X : Type 0} (xs : List X) (k j : ℕ) (y : X) → j ≢ k → slice_get (slice_set xs k y) j ≡ slice_get xs j
get_set_other [] k j y ne = refl
get_set_other (z ∷ xs) zero zero y ne = absurd (ne refl)
get_set_other (z ∷ xs) zero (suc j) y ne = refl
get_set_other (z ∷ xs) (suc k) zero y ne = refl
get_set_other (z ∷ xs) (suc k) (suc j) y ne = get_set_other xs k j y (λ (e : j ≡ k). ne (ap suc e))

-- the element that is pushed, if there was none
pub push_cases : {X : Type 0} (xs : List X) (y : X) (j : ℕ) → (slice_get (xs ++ y ∷ []) j ≡ slice_get xs j) ⊎ ((slice_get (xs ++ y ∷ []) j ≡ Some y) × (slice_get xs j ≡ None))
push_cases [] y zero = inr (refl, refl)
push_cases [] y (suc j) = inl refl
push_cases (x ∷ xs) y zero = inl refl
push_cases (x ∷ xs) y (suc j) = push_cases xs y j

-- ---- as many of one

take_some : {X : Type 0} (n m : ℕ) (x : X) → n ≤ m → take n (replicate m x) ≡ replicate n x
take_some zero m x h = refl
take_some (suc n) zero x h = absurd (omega arith)
take_some (suc n) (suc m) x h = ap {B = List _} (λ r. x ∷ r) (take_some n m x (omega arith))

-- those that stay, with n more
pub take_joined : {X : Type 0} (xs : List X) (n m : ℕ) (x : X) → m ≡ length xs + n → take m (xs ++ replicate m x) ≡ xs ++ replicate n x
take_joined xs n m x h =
    ap (λ (l : ℕ). take l (xs ++ replicate m x)) h ∙ take-append-add xs (replicate m x) n ∙ ap (λ (ys : List _). xs ++ ys) (take_some n m x (omega arith))

-- the frames of a queue come from where what waited did, with as many as it is long after that, cut to its length
pub queue_origins_are : (queue : List (List ℕ)) (n : ℕ) (waited : List (Option Origin)) (new : Option Origin) → length queue ≤ n → queue_origins queue waited new ≡ take (length queue) (waited ++ replicate n new)
queue_origins_are [] n waited new h = refl
queue_origins_are (f ∷ queue) zero waited new h = absurd (omega (arith, h))
queue_origins_are (f ∷ queue) (suc n) [] new h = ap {B = List _} (λ r. new ∷ r) (queue_origins_are queue n [] new (omega (arith, h)))
queue_origins_are (f ∷ queue) (suc n) (m ∷ waited) new h = ap {B = List _} (λ r. m ∷ r) (queue_origins_are queue (suc n) waited new (omega (arith, h)))

-- ---- numbers that rise

all_front : {X : Type 0} (P : X → Type 0) (xs ys : List X) → All P (xs ++ ys) → All P xs
all_front P [] ys h = All-nil P
all_front P (x ∷ xs) ys h = All-cons P x xs (All-head P x (xs ++ ys) h) (all_front P xs ys (All-tail P x (xs ++ ys) h))

all_push : {X : Type 0} (P : X → Type 0) (xs : List X) (x : X) → All P xs → P x → All P (xs ++ x ∷ [])
all_push P [] x h k = All-cons P x [] k (All-nil P)
all_push P (y ∷ xs) x h k = All-cons P y (xs ++ x ∷ []) (All-head P y xs h) (all_push P xs x (All-tail P y xs h) k)

pub rising_front : (ns ms : List ℕ) → IsRising (ns ++ ms) → IsRising ns
rising_front [] ms h = tt
rising_front (n ∷ ns) ms h = (all_front (λ m. n < m) ns ms h.0, rising_front ns ms h.1)

pub rising_push : (ns : List ℕ) (n : ℕ) → IsRising ns → All (λ m. m < n) ns → IsRising (ns ++ n ∷ [])
rising_push [] n h k = (All-nil (λ m. n < m), tt)
rising_push (m ∷ ns) n h k = (all_push (λ l. m < l) ns n h.0 (All-head (λ l. l < n) m ns k), rising_push ns n h.1 (All-tail (λ l. l < n) m ns k))

-- ---- the polls of a request

polls_case : (k : ℕ) (m : Origin) (b : Bool) (xs ys : List ℕ) → (if b then m.poll ∷ (xs ++ ys) else xs ++ ys) ≡ (if b then m.poll ∷ xs else xs) ++ ys
polls_case k m true xs ys = refl
polls_case k m false xs ys = refl

pub polls_append : (k : ℕ) (ms ns : List (Option Origin)) → polls_of k (ms ++ ns) ≡ polls_of k ms ++ polls_of k ns
polls_append k [] ns = refl
polls_append k (None ∷ ms) ns = polls_append k ms ns
polls_append k (Some m ∷ ms) ns =
    ap (λ (xs : List ℕ). if m.request == k then m.poll ∷ xs else xs) (polls_append k ms ns) ∙ polls_case k m (m.request == k) (polls_of k ms) (polls_of k ns)

pub polls_none : (k n : ℕ) → polls_of k (replicate n None) ≡ []
polls_none k zero = refl
polls_none k (suc n) = polls_none k n

pub polls_same : (k : ℕ) (m : Origin) → m.request ≡ k → polls_of k (Some m ∷ []) ≡ m.poll ∷ []
polls_same k m h = ap (λ (b : Bool). if b then m.poll ∷ [] else []) (eq-eqb m.request k h)

pub polls_other : (k : ℕ) (m : Origin) → m.request ≢ k → polls_of k (Some m ∷ []) ≡ []
polls_other k m h = ap (λ (b : Bool). if b then m.poll ∷ [] else []) (ne_eqb m.request k h)

-- ---- the messages that come from them

-- a frame refuses a response, whoever is sent it
abbrev pub FrameRefuses : List ℕ → Type 0
FrameRefuses o = Refuses (Frame 0 o)

module _ (answers : Serving) where
  pub queued_length : (ms : List (Option Origin)) (os : List (List ℕ)) → AreQueued answers ms os → length ms ≡ length os
  queued_length [] [] h = refl
  queued_length [] (o ∷ os) h = absurd h
  queued_length (m ∷ ms) [] h = absurd h
  queued_length (m ∷ ms) (o ∷ os) h = ap suc (queued_length ms os h.1)

  pub queued_append : (ms ns : List (Option Origin)) (os ps : List (List ℕ)) → AreQueued answers ms os → AreQueued answers ns ps → AreQueued answers (ms ++ ns) (os ++ ps)
  queued_append [] ns [] ps h k = k
  queued_append [] ns (o ∷ os) ps h k = absurd h
  queued_append (m ∷ ms) ns [] ps h k = absurd h
  queued_append (m ∷ ms) ns (o ∷ os) ps h k = (h.0, queued_append ms ns os ps h.1 k)

  pub queued_none : (os : List (List ℕ)) → All FrameRefuses os → AreQueued answers (replicate (length os) None) os
  queued_none [] h = tt
  queued_none (o ∷ os) h = ((λ client. All-head FrameRefuses o os h), queued_none os (All-tail FrameRefuses o os h))

  pub from_append : (ms ns : List (Option Origin)) (os ps : List Output) → AreFrom answers ms os → AreFrom answers ns ps → AreFrom answers (ms ++ ns) (os ++ ps)
  from_append [] ns [] ps h k = k
  from_append [] ns (o ∷ os) ps h k = absurd h
  from_append (m ∷ ms) ns [] ps h k = absurd h
  from_append (m ∷ ms) ns (o ∷ os) ps h k = (h.0, from_append ms ns os ps h.1 k)

  pub from_one : (m : Option Origin) (out : Output) → IsFrom answers m out → AreFrom answers (m ∷ []) (out ∷ [])
  from_one m out h = (h, tt)

-- ---- the requests that these messages answer

module _ (answers : Serving) (respond : (n : Option ℕ) (r : Req (Unit {0})) (k : ℕ) → IfSome (reply_to n r.octets (answers.answer r k)) (Responds r.octets)) where
  answer_case : (m : Origin) (o : List ℕ) (x : Option Msg) → IfSome x (Responds m.asked.octets) → option_map (on_wire m.asked.transport) x ≡ Some o → AnswersRequest m o
  answer_case m o None h is = let no : None ≡ Some o = is in cc
  answer_case m o (Some given) h is = let same : Some (on_wire m.asked.transport given) ≡ Some o = is in record { message = given; is = cc; responds = h }

  answers_request : (m : Origin) (o : List ℕ) → reply_at answers m ≡ Some o → AnswersRequest m o
  answers_request m o is = answer_case m o (sent_for answers m.asked (answers.answer m.asked m.poll)) (respond (limit_for answers m.asked) m.asked m.poll) is

  from_case : (m : Option Origin) (out : Output) → IsFrom answers m out → IsAnswer m out
  from_case None out h = h
  from_case (Some m) (Datagram client o) h = answers_request m o h
  from_case (Some m) (Frame client o) h = answers_request m o h
  from_case (Some m) (Closed client why) h = absurd h
  from_case (Some m) (TurnedAway client accepted) h = absurd h

  pub from_answers : (ms : List (Option Origin)) (os : List Output) → AreFrom answers ms os → AreAnswers ms os
  from_answers [] [] h = tt
  from_answers [] (o ∷ os) h = absurd h
  from_answers (m ∷ ms) [] h = absurd h
  from_answers (m ∷ ms) (o ∷ os) h = (from_case m o h.0, from_answers ms os h.1)
