-- What a polled request answers to poll k, and its size hint: as its future, and then as the stream of its replies.
use Rattle.std.specs.Prelude.{◌≡◌, ℕ, suc, Bool, true, false, Option, None}
use Rattle.dns_service.specs.Answer.{Answer}
use Rattle.dns_service.specs.declared.service.Polled.{Polled}
use Rattle.dns_service.specs.declared.polled.PolledRequest.{PolledRequest}
use Rattle.dns_service.specs.declared.polled.PolledRequest.TheVariants.{Future, Stream}

-- the answers of a polled request from now on
abbrev pub request_answer : {F R : Type 0} → (F → ℕ → Answer) → (R → ℕ → Answer) → PolledRequest F R → ℕ → Answer
request_answer f r (Future future) = f future
request_answer f r (Stream stream) = r stream

-- the size hint of a future: nothing is known
abbrev pub unknown_size : ℕ × Option ℕ
unknown_size = (0, None)

abbrev pub request_size : {F R : Type 0} → (R → ℕ × Option ℕ) → PolledRequest F R → ℕ × Option ℕ
request_size r (Future future) = unknown_size
request_size r (Stream stream) = r stream

-- the replies have begun: there is a stream
abbrev pub HasStream : {F R : Type 0} → PolledRequest F R → Type 0
HasStream (Future future) = ⊥
HasStream (Stream stream) = Unit {0}

-- a request has come to its stream and answers as it did, or an answer is taken that is pending
abbrev pub ComesToStream : {F R : Type 0} → (F → ℕ → Answer) → (R → ℕ → Answer) → PolledRequest F R → PolledRequest F R → Bool → Type 0
ComesToStream f r before after true = HasStream after × ((k : ℕ) → request_answer f r after k ≡ request_answer f r before k)
ComesToStream f r before after false = (request_answer f r before 0 ≡ Polled.Pending)
    × ((k : ℕ) → request_answer f r after k ≡ request_answer f r before (suc k))
