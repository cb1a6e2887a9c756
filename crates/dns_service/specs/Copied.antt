-- A message copied: each record's data by the shape of its type (RFC 1035, section 3.3), names uncompressed (section 4.1.4),
-- without the OPT records of the additional section (RFC 6891, section 6.1.1).
use Rattle.std.specs.Prelude.{ℕ, ◌≡◌, List, [], ◌∷◌, Result, Ok, Err}
use Rattle.std.specs.declared.vec.Vec.{Vec}
use Rattle.std.specs.declared.alloc.Global.{Global}
use Rattle.dns_name.specs.declared.error.ParseError.{ParseError}
use Rattle.dns_name.specs.declared.error.ParseError.TheVariants.{ShortInput, Form, OutOfMemory as NoMemory}
use Rattle.dns_message.specs.declared.header.Header.{Header}
use Rattle.dns_message.specs.declared.question.Question.{Question}
use Rattle.dns_base.specs.CopiedRecord.{copied_record}
use Rattle.dns_base.specs.Header.{header_of}
use Rattle.dns_base.specs.Msg.{Msg, ResourceRecord}
use Rattle.dns_base.specs.Replaced.{other_than}
use Rattle.dns_base.specs.Sections.{all_of, questions_of, standing_answers, standing_authority, standing_additional}
use Rattle.dns_base.specs.Standing.{Standing}

-- an item in front of those after it, or the first refusal
abbrev pub in_front : {A : Type 0} → Result A ParseError → Result (List A) ParseError → Result (List A) ParseError
in_front (Ok x) (Ok xs) = Ok (x ∷ xs)
in_front (Ok x) (Err e) = Err e
in_front (Err e) more = Err e

-- every item, or the first refusal
abbrev pub whole_list : {A : Type 0} → List (Result A ParseError) → Result (List A) ParseError
whole_list [] = Ok []
whole_list (item ∷ items) = in_front item (whole_list items)

-- a record that a section gives, copied: refused if it, or its data, is unreadable
abbrev pub copied_item : Result Standing ParseError → Result ResourceRecord ParseError
copied_item (Ok s) = copied_record s
copied_item (Err e) = Err e

-- the records that a section gives, copied
abbrev pub copied_records : List (Result Standing ParseError) → Result (List ResourceRecord) ParseError
copied_records [] = Ok []
copied_records (item ∷ items) = in_front (copied_item item) (copied_records items)

-- without those of type OPT
abbrev pub others_of : Result (List ResourceRecord) ParseError → Result (List ResourceRecord) ParseError
others_of (Ok rs) = Ok (other_than 41 rs)
others_of (Err e) = Err e

-- header and sections as a message, or the refusal of the foremost section
abbrev pub gathered : Header → Result (List Question) ParseError → Result (List ResourceRecord) ParseError
    → Result (List ResourceRecord) ParseError → Result (List ResourceRecord) ParseError → Result Msg ParseError
gathered h (Err e) answers authority additional = Err e
gathered h (Ok qs) (Err e) authority additional = Err e
gathered h (Ok qs) (Ok an) (Err e) additional = Err e
gathered h (Ok qs) (Ok an) (Ok ns) (Err e) = Err e
gathered h (Ok qs) (Ok an) (Ok ns) (Ok ar) = Ok (record { header = h; questions = qs; answers = an; authority = ns; additional = ar })

-- the copy of octets that are a message, or the foremost refusal of a section or its data
unfoldable pub copied : List ℕ → Result Msg ParseError
copied o = gathered (header_of o) (whole_list (all_of (questions_of o))) (copied_records (all_of (standing_answers o)))
    (copied_records (all_of (standing_authority o))) (others_of (copied_records (all_of (standing_additional o))))

-- a vector of what is read is given, unless memory runs out
abbrev pub GivesAll : {A : Type 0} → Result (Vec A Global) ParseError → Result (List A) ParseError → Type 0
GivesAll (Ok v) read = read ≡ Ok v.items
GivesAll (Err NoMemory) read = Unit {0}
GivesAll (Err ShortInput) read = read ≡ Err ShortInput
GivesAll (Err (Form f)) read = read ≡ Err (Form f)

-- a vector of what is read is given, with the place after it, unless memory runs out
abbrev pub GivesSection : {A : Type 0} → Result (Vec A Global × ℕ) ParseError → Result (List A) ParseError → Result ℕ ParseError → Type 0
GivesSection (Ok s) read end = (read ≡ Ok s.0.items) × (end ≡ Ok s.1)
GivesSection (Err NoMemory) read end = Unit {0}
GivesSection (Err ShortInput) read end = read ≡ Err ShortInput
GivesSection (Err (Form f)) read end = read ≡ Err (Form f)
