-- Which octets answer a message that was sent under an identifier (RFC 1035, sections 4.1.1 and 7.3; RFC 5452, section 9.1).
use Rattle.std.specs.Prelude.{ℕ, ◌&&◌, ◌++◌, Bool, false, List, length, drop, nat_eq, nat_le, if◌then◌else◌, Option, Some, None}
use Rattle.dns_name.specs.Place.{two}
use Rattle.dns_base.specs.Equality.{same_question}
use Rattle.dns_base.specs.Header.{header_of}
use Rattle.dns_base.specs.Sections.{field, first_of, questions_of}
use Rattle.dns_message.specs.declared.header.Header.{Header}
use Rattle.dns_message.specs.declared.question.Question.{Question}

-- a message with another identifier
abbrev pub with_id : ℕ → List ℕ → List ℕ
with_id id o = two id ++ drop 2 o

-- the question of a message that has one alone, if it is readable
abbrev pub single_question : List ℕ → Option Question
single_question o = if nat_eq (field 4 o) 1 then first_of (questions_of o).0 else None

-- both are there, and the same: name up to ASCII case, type and class
abbrev pub both_ask : Option Question → Option Question → Bool
both_ask (Some q) (Some r) = same_question q r
both_ask (Some q) None = false
both_ask None r = false

-- a response of an opcode under an identifier
abbrev pub responds : ℕ → ℕ → Header → Bool
responds id opcode h = nat_eq h.id id && (h.qr && nat_eq h.opcode opcode)

-- octets that have a header, which responds, and a question alone, which is this one
abbrev pub is_answer : ℕ → ℕ → Option Question → List ℕ → Bool
is_answer id opcode question o = nat_le 12 (length o) && (responds id opcode (header_of o) && both_ask question (single_question o))

-- octets match a message that was asked under an identifier: they are a response of its opcode to its question
abbrev pub matches : List ℕ → ℕ → List ℕ → Bool
matches asked id o = is_answer id (header_of asked).opcode (single_question asked) o
