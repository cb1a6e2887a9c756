-- A message that is read item by item (RFC 1035, section 4.1): its questions, and then the records of its three sections.
use Rattle.std.specs.Prelude.{ℕ, ◌≡◌, ◌<◌, ◌≤◌, ◌-◌, ◌++◌, List, length, drop, nat_eq, Option, Some, None, Result, Ok, Err, if◌then◌else◌}
use Rattle.dns_name.specs.declared.error.ParseError.{ParseError}
use Rattle.dns_message.specs.declared.header.HeaderCounts.{HeaderCounts}
use Rattle.dns_message.specs.declared.question.Question.{Question}
use Rattle.dns_message.specs.Msg.{ResourceRecord}
use Rattle.dns_message.specs.Read.{question_at}
use Rattle.dns_message.specs.Sections.{counts_of}
use Rattle.dns_message.specs.Standing.{Standing, standing_at}
use Rattle.dns_message.specs.Wire.{question_octets, record_octets}
use Rattle.dns_base.specs.CopiedRecord.{copied_record}
use Rattle.dns_embed.specs.declared.reader.ItemSection.{ItemSection}
use Rattle.dns_embed.specs.declared.reader.ItemSection.TheVariants.{Question as Asked, Answer, Authority, Additional}
use Rattle.dns_embed.specs.declared.reader.ReadItem.{ReadItem}
use Rattle.dns_embed.specs.declared.reader.ReadItem.TheVariants.{End, Item, NoRoom, Unreadable}

-- a message, the place in it of the next item, and how many items each section has from there on
pub record Reading : Type 0 where
  pub octets : List ℕ
  pub at : ℕ
  pub left : HeaderCounts

-- from its first item on, after the header
abbrev pub reading_from : List ℕ → Reading
reading_from o = record { octets = o; at = 12; left = counts_of o }

-- none exactly to fewer octets than a header has
abbrev pub Begins : List ℕ → Option Reading → Type 0
Begins o None = length o < 12
Begins o (Some r) = (12 ≤ length o) × (r ≡ reading_from o)

-- the section of the next item
abbrev pub next_section : HeaderCounts → Option ItemSection
next_section n =
    if nat_eq n.qdcount 0 then (if nat_eq n.ancount 0 then (if nat_eq n.nscount 0 then (if nat_eq n.arcount 0 then None
    else Some Additional) else Some Authority) else Some Answer) else Some Asked

-- one item of a section less
abbrev pub one_less : ItemSection → HeaderCounts → HeaderCounts
one_less Asked n = record n { qdcount = n.qdcount - 1 }
one_less Answer n = record n { ancount = n.ancount - 1 }
one_less Authority n = record n { nscount = n.nscount - 1 }
one_less Additional n = record n { arcount = n.arcount - 1 }

-- the octets of a question, names uncompressed, and the place after it
abbrev pub question_by : Result (Question × ℕ) ParseError → Result (List ℕ × ℕ) ParseError
question_by (Ok q) = Ok (question_octets q.0, q.1)
question_by (Err e) = Err e

-- the octets of a record, names uncompressed, and the place after it
abbrev pub record_with : ℕ → Result ResourceRecord ParseError → Result (List ℕ × ℕ) ParseError
record_with end (Ok r) = Ok (record_octets r, end)
record_with end (Err e) = Err e

abbrev pub record_by : Result (Standing × ℕ) ParseError → Result (List ℕ × ℕ) ParseError
record_by (Ok s) = record_with s.1 (copied_record s.0)
record_by (Err e) = Err e

-- an item at a place (RFC 1035, sections 4.1.2 and 4.1.3)
abbrev pub item_at : ItemSection → List ℕ → ℕ → Result (List ℕ × ℕ) ParseError
item_at Asked o at = question_by (question_at o at)
item_at Answer o at = record_by (standing_at o at)
item_at Authority o at = record_by (standing_at o at)
item_at Additional o at = record_by (standing_at o at)

-- the next item
abbrev pub next_item : ItemSection → Reading → Result (List ℕ × ℕ) ParseError
next_item section r = item_at section r.octets r.at

-- the next item is read, or none is left, or it stays
abbrev pub Reads : Reading → Reading → List ℕ → List ℕ → ReadItem → Type 0
Reads r s before after End = (next_section r.left ≡ None) × (s ≡ r) × (after ≡ before)
Reads r s before after (Item section n) = (o : List ℕ) × (end : ℕ)
    × (next_section r.left ≡ Some section) × (next_item section r ≡ Ok (o, end))
    × (s ≡ record r { at = end; left = one_less section r.left })
    × (n ≡ length o) × (n ≤ length before) × (after ≡ o ++ drop n before)
Reads r s before after (NoRoom n) = (section : ItemSection) × (o : List ℕ) × (end : ℕ)
    × (next_section r.left ≡ Some section) × (next_item section r ≡ Ok (o, end)) × (s ≡ r)
    × (n ≡ length o) × (length before < n) × (after ≡ before)
Reads r s before after Unreadable = (section : ItemSection) × (e : ParseError)
    × (next_section r.left ≡ Some section) × (next_item section r ≡ Err e) × (s ≡ r) × (after ≡ before)
