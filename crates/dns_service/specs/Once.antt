-- Replies that are there at once: one item, and then the end.
use Rattle.std.specs.Prelude.{ℕ, zero, suc, Option, Some, None}
use Rattle.dns_service.specs.Answer.{Item, Answer}
use Rattle.dns_service.specs.declared.service.Polled.TheVariants.{Pending, Ready}

-- the item at answer 0, and the end from answer 1
abbrev pub once : Item → ℕ → Answer
once item zero = Ready (Some item)
once item (suc k) = Ready None

-- what is answered if the item may have been given
abbrev pub once_of : Option Item → ℕ → Answer
once_of None = λ k. Ready None
once_of (Some item) = once item

-- how many items are left
abbrev pub items_left : Option Item → ℕ
items_left None = 0
items_left (Some item) = 1

-- what a future answers that is ready at once: as its stream, and pending if that was taken
abbrev pub now_of : {S : Type 0} → (S → ℕ → Answer) → Option S → ℕ → Answer
now_of answer None = λ k. Pending
now_of answer (Some stream) = answer stream
