-- The text of a message for a reader of logs, laid out as dig does: the header, and the sections, each below its title.
use Rattle.std.specs.Prelude.{ℕ, Bool, List, [], ◌∷◌, ◌++◌, nat_eq, if◌then◌else◌, Result, Ok, Err, codes, decimal}
use Rattle.std.specs.List.{flat_map}
use Rattle.dns_name.specs.ErrorTexts.{parse_text}
use Rattle.dns_name.specs.Registries.{code_text}
use Rattle.dns_name.specs.declared.error.ParseError.{ParseError}
use Rattle.dns_name.specs.declared.registry.Registry.TheVariants.{Opcodes, Rcodes, Rtypes}
use Rattle.dns_message.specs.Header.{header_of}
use Rattle.dns_message.specs.Sections.{FourSections, counts_of, sections_of}
use Rattle.dns_message.specs.Standing.{Standing, typed}
use Rattle.dns_message.specs.declared.header.Header.{Header}
use Rattle.dns_message.specs.declared.header.HeaderCounts.{HeaderCounts}
use Rattle.dns_message.specs.declared.question.Question.{Question}
use Rattle.dns_message.specs.declared.record.Record.{Record}
use Rattle.dns_record_text.specs.RecordText.{absolute_text, class_word, resource_text}

-- ---- words of registries

unfoldable pub opcode_word : ℕ → List ℕ
opcode_word n = code_text Opcodes n

unfoldable pub rcode_word : ℕ → List ℕ
rcode_word n = code_text Rcodes n

unfoldable pub type_name : ℕ → List ℕ
type_name t = code_text Rtypes t

-- ---- the header

-- the name of a flag that is set, after a space
abbrev pub flag : Bool → List ℕ → List ℕ
flag b name = if b then 32 ∷ name else []

abbrev pub flags_text : Header → List ℕ
flags_text h = flag h.qr (codes "qr") ++ (flag h.aa (codes "aa")
    ++ (flag h.tc (codes "tc") ++ (flag h.rd (codes "rd")
    ++ (flag h.ra (codes "ra") ++ (flag h.ad (codes "ad") ++ flag h.cd (codes "cd"))))))

-- a word after what it is
unfoldable pub labelled : List ℕ → List ℕ → List ℕ
labelled label word = label ++ word

abbrev pub codes_text : Header → List ℕ
codes_text h = labelled (codes ";; ->>HEADER<<- opcode: ") (opcode_word h.opcode)
    ++ (labelled (codes ", status: ") (rcode_word h.rcode) ++ (labelled (codes ", id: ") (decimal h.id) ++ 10 ∷ []))

abbrev pub counts_text : HeaderCounts → List ℕ
counts_text c =
    labelled (codes "; QUERY: ") (decimal c.qdcount) ++ (labelled (codes ", ANSWER: ") (decimal c.ancount)
    ++ (labelled (codes ", AUTHORITY: ") (decimal c.nscount) ++ (labelled (codes ", ADDITIONAL: ") (decimal c.arcount) ++ 10 ∷ [])))

unfoldable pub header_text : Header → HeaderCounts → List ℕ
header_text h c = codes_text h ++ (codes ";; flags:" ++ (flags_text h ++ counts_text c))

-- ---- items

-- what can't be read, and why
unfoldable pub unreadable : ParseError → List ℕ
unreadable e = labelled (codes ";; unreadable: ") (parse_text e) ++ 10 ∷ []

abbrev pub question_text : Question → List ℕ
question_text q = 59 ∷ (absolute_text q.qname ++ (32 ∷ (class_word q.qclass ++ (32 ∷ (type_name q.qtype ++ 10 ∷ [])))))

abbrev pub question_item : Result Question ParseError → List ℕ
question_item (Ok q) = question_text q
question_item (Err e) = unreadable e

abbrev pub read_text : Result Record ParseError → List ℕ
read_text (Ok r) = resource_text r
read_text (Err e) = unreadable e

abbrev pub record_item : Result Standing ParseError → List ℕ
record_item (Ok s) = read_text (typed s)
record_item (Err e) = unreadable e

-- ---- sections

-- the title of a section that states an item
abbrev pub title_text : ℕ → List ℕ → List ℕ
title_text n title = if nat_eq n 0 then [] else 10 ∷ 59 ∷ 59 ∷ 32 ∷ (title ++ codes " SECTION:\n")

unfoldable pub questions_text : ℕ → List (Result Question ParseError) → List ℕ
questions_text n items = title_text n (codes "QUESTION") ++ flat_map question_item items

unfoldable pub records_text : ℕ → List ℕ → List (Result Standing ParseError) → List ℕ
records_text n title items = title_text n title ++ flat_map record_item items

abbrev pub four_sections : HeaderCounts → FourSections → List ℕ
four_sections c s = questions_text c.qdcount s.0
    ++ (records_text c.ancount (codes "ANSWER") s.1
    ++ (records_text c.nscount (codes "AUTHORITY") s.2 ++ records_text c.arcount (codes "ADDITIONAL") s.3))

-- the sections, or why the last isn't reached
unfoldable pub sections_text : HeaderCounts → Result FourSections ParseError → List ℕ
sections_text c (Ok s) = four_sections c s
sections_text c (Err e) = unreadable e

abbrev pub message_text : List ℕ → List ℕ
message_text o = header_text (header_of o) (counts_of o) ++ sections_text (counts_of o) (sections_of o)
