-- The four sections of a message (RFC 1035, section 4.1): the items of each up to the first unreadable one.
use Rattle.std.specs.Prelude.{ℕ, ◌≡◌, zero, suc, List, [], ◌∷◌, ◌++◌, drop, map, Option, Some, None, Result, Ok, Err}
use Rattle.dns_name.specs.declared.error.ParseError.{ParseError}
use Rattle.dns_name.specs.Place.{Read, be16}
use Rattle.dns_message.specs.declared.question.Question.{Question}
use Rattle.dns_message.specs.declared.header.HeaderCounts.{HeaderCounts}
use Rattle.dns_message.specs.Header.{header_of}
use Rattle.dns_message.specs.Msg.{Msg, ResourceRecord}
use Rattle.dns_message.specs.Read.{question_at}
use Rattle.dns_message.specs.Standing.{Standing, standing_at, record_at}

-- items, and the place after them or the refusal of the item after them
abbrev pub Items : Type 0 → Type 0
Items A = List A × Result ℕ ParseError

abbrev pub by_item : {A : Type 0} → (ℕ → Items A) → Read A → Items A
by_item go (Ok (x, end)) = (x ∷ (go end).0, (go end).1)
by_item go (Err e) = ([], Err e)

-- that many items from a place, if one reads an item
abbrev pub items_from : {A : Type 0} → (ℕ → Read A) → ℕ → ℕ → Items A
items_from one zero at = ([], Ok at)
items_from one (suc k) at = by_item (items_from one k) (one at)

-- a section after another, which isn't reached if the other isn't readable
abbrev pub items_behind : {A : Type 0} → (ℕ → Read A) → ℕ → Result ℕ ParseError → Items A
items_behind one n (Ok at) = items_from one n at
items_behind one n (Err e) = ([], Err e)

-- the number that octets begin with
abbrev pub number_of : List ℕ → ℕ
number_of [] = 0
number_of (a ∷ []) = 0
number_of (a ∷ b ∷ o) = be16 a b

-- the number at a place of the header: the counts stand at 4, 6, 8 and 10
abbrev pub field : ℕ → List ℕ → ℕ
field at o = number_of (drop at o)

-- the counts that a header states
abbrev pub counts_of : List ℕ → HeaderCounts
counts_of o = record { qdcount = field 4 o; ancount = field 6 o; nscount = field 8 o; arcount = field 10 o }

unfoldable pub questions_of : List ℕ → Items Question
questions_of o = items_from (question_at o) (field 4 o) 12

unfoldable pub answers_of : List ℕ → Items ResourceRecord
answers_of o = items_behind (record_at o) (field 6 o) (questions_of o).1

unfoldable pub authority_of : List ℕ → Items ResourceRecord
authority_of o = items_behind (record_at o) (field 8 o) (answers_of o).1

unfoldable pub additional_of : List ℕ → Items ResourceRecord
additional_of o = items_behind (record_at o) (field 10 o) (authority_of o).1

-- the sections with each record as it stands in the message
abbrev pub standing_answers : List ℕ → Items Standing
standing_answers o = items_behind (standing_at o) (field 6 o) (questions_of o).1

abbrev pub standing_authority : List ℕ → Items Standing
standing_authority o = items_behind (standing_at o) (field 8 o) (answers_of o).1

abbrev pub standing_additional : List ℕ → Items Standing
standing_additional o = items_behind (standing_at o) (field 10 o) (authority_of o).1

-- the message that octets are, as far as it is readable
unfoldable pub message_of : List ℕ → Msg
message_of o = record {
  header = header_of o;
  questions = (questions_of o).0;
  answers = (answers_of o).0;
  authority = (authority_of o).0;
  additional = (additional_of o).0;
}

-- records that are the same, each as it stands or with its data as octets, and one end
pub record SameRecords (i : Items Standing) (j : Items ResourceRecord) : Type 0 where
  pub items : map (λ (s : Standing). s.resource) i.0 ≡ j.0
  pub end : i.1 ≡ j.1

-- what an iterator over a section gives: its items, and then the refusal of the first unreadable one
abbrev pub all_of : {A : Type 0} → Items A → List (Result A ParseError)
all_of (xs, Ok end) = map Ok xs
all_of (xs, Err e) = map Ok xs ++ Err e ∷ []

-- what a section gives if it is reached, else the refusal of the section before it
abbrev pub reached : {A : Type 0} → Result ℕ ParseError → Items A → Result (List (Result A ParseError)) ParseError
reached (Ok at) items = Ok (all_of items)
reached (Err e) items = Err e

-- what is given of the questions and of the answer, authority and additional records
abbrev pub FourSections : Type 0
FourSections = List (Result Question ParseError) × List (Result Standing ParseError) × List (Result Standing ParseError)
    × List (Result Standing ParseError)

-- the four sections if the last one is reached, else the refusal of the section before it
abbrev pub sections_by : List ℕ → Result ℕ ParseError → Result FourSections ParseError
sections_by o (Ok at) = Ok (
  all_of (questions_of o),
  all_of (standing_answers o),
  all_of (standing_authority o),
  all_of
      (standing_additional o),
)
sections_by o (Err e) = Err e

abbrev pub sections_of : List ℕ → Result FourSections ParseError
sections_of o = sections_by o (authority_of o).1

-- the first item if there is a readable one
abbrev pub first_of : {A : Type 0} → List A → Option A
first_of [] = None
first_of (x ∷ xs) = Some x

-- what an iterator over that many items from a place on gives, and where they end
abbrev pub to_come : {A : Type 0} → (ℕ → Read A) → ℕ → ℕ → List (Result A ParseError)
to_come one k at = all_of (items_from one k at)

abbrev pub ends_at : {A : Type 0} → (ℕ → Read A) → ℕ → ℕ → Result ℕ ParseError
ends_at one k at = (items_from one k at).1
