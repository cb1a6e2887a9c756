-- The questions that are asked of upstreams at a time, each at a place. An equal one isn't asked beside it, which would give a forged
-- answer several ports and identifiers to find (RFC 5452, section 5).
use Rattle.std.specs.Prelude.{ℕ, ◌≤◌, Bool, not, List, nat_eq, Option, option_map}
use Rattle.std.specs.List.{count_by, filter, find, list_any}
use Rattle.dns_message.specs.declared.question.Question.{Question}
use Rattle.dns_message.specs.Equality.{same_question}
use Rattle.dns_outstanding.specs.declared.outstanding.AskedQuestion.{AskedQuestion}

-- whether a question is asked: one of the same name up to ASCII case, type and class
abbrev pub asks : Question → AskedQuestion → Bool
asks q a = same_question q a.question

abbrev pub is_asked : Question → List AskedQuestion → Bool
is_asked q asked = list_any (asks q) asked

-- the place at which it is asked
abbrev pub place_of : Question → List AskedQuestion → Option ℕ
place_of q asked = option_map (λ (a : AskedQuestion). a.place) (find (asks q) asked)

-- each question is asked at one place at most
abbrev pub AreAskedOnce : List AskedQuestion → Type 0
AreAskedOnce asked = (q : Question) → count_by (asks q) asked ≤ 1

-- what is asked at other places
abbrev pub is_elsewhere : ℕ → AskedQuestion → Bool
is_elsewhere place a = not (nat_eq a.place place)

abbrev pub without : ℕ → List AskedQuestion → List AskedQuestion
without place asked = filter (is_elsewhere place) asked
