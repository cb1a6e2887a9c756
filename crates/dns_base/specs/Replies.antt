-- The reply that is begun to a query: it copies the query's identifier, opcode, RD and questions, and is a response with a response
-- code (RFC 1035, section 4.1.1).
use Rattle.std.specs.Prelude.{ℕ, ⊤, ◌≡◌, Bool, true, false, List, [], ◌∷◌, ◌++◌, length, nat_le, if◌then◌else◌, Result, Ok, Err}
use Rattle.dns_base.specs.declared.error.PushError.{PushError}
use Rattle.dns_base.specs.declared.error.PushError.TheVariants.{ShortBuf, OutOfMemory as NoMemory}
use Rattle.dns_message.specs.declared.header.Header.{Header}
use Rattle.dns_message.specs.declared.question.Question.{Question}
use Rattle.dns_base.specs.Header.{header_of}
use Rattle.dns_base.specs.Wire.{wire}
use Rattle.dns_base.specs.Sections.{questions_of}
use Rattle.dns_base.specs.Built.{Built, with_header, with_question}

-- a header as the answer to a query's
abbrev pub answer_header : Header → Header → ℕ → Header
answer_header h query rcode = record h { id = query.id; qr = true; opcode = query.opcode; rd = query.rd; rcode = rcode }

-- what is built, with these questions as well
abbrev pub with_questions : Built → List Question → Built
with_questions b qs = record b { message = record b.message { questions = b.message.questions ++ qs } }

-- what is built, as the answer to a query's octets: the questions are those up to the first unreadable one
abbrev pub answer_to : Built → List ℕ → ℕ → Built
answer_to b o rcode = with_questions (with_header b (answer_header b.message.header (header_of o) rcode)) (questions_of o).0

-- a message stays within its limit
abbrev pub within_limit : Built → Bool
within_limit b = nat_le (length (wire b.message)) b.limit

-- questions added one by one up to the first that has no room, and whether all have room
abbrev pub with_copied : Built → List Question → Built × Bool
with_copied b [] = (b, true)
with_copied b (q ∷ qs) = if within_limit (with_question b q) then with_copied (with_question b q) qs else (b, false)

-- questions are copied, or the copy ends ShortBuf at the first that has no room
abbrev pub Copies : Built × Bool → Built → Result ⊤ PushError → Type 0
Copies c new (Ok _) = c ≡ (new, true)
Copies c new (Err ShortBuf) = c ≡ (new, false)
Copies c new (Err NoMemory) = Unit {0}

-- the questions of a query have room in the answer to it
abbrev pub have_room : Built → List ℕ → ℕ → Bool
have_room b o rcode = (with_copied (with_header b (answer_header b.message.header (header_of o) rcode)) (questions_of o).0).1

-- an answer is begun, or refused ShortBuf exactly if a question has no room
abbrev pub Answers : Built → List ℕ → ℕ → Result Built PushError → Type 0
Answers b o rcode (Ok new) = (new ≡ answer_to b o rcode) × (have_room b o rcode ≡ true)
Answers b o rcode (Err ShortBuf) = have_room b o rcode ≡ false
Answers b o rcode (Err NoMemory) = Unit {0}

abbrev pub with_rcode : Built → ℕ → Built
with_rcode b rcode = with_header b (record b.message.header { rcode = rcode })

abbrev pub error_by : Built × Bool → Built
error_by (b, true) = b
error_by (b, false) = with_rcode b 2

-- what is built, as the error answer to a query's octets: the questions up to the first that has no room, for which RCODE becomes SERVFAIL
abbrev pub error_to : Built → List ℕ → ℕ → Built
error_to b o rcode = error_by (with_copied (with_header b (answer_header b.message.header (header_of o) rcode)) (questions_of o).0)
