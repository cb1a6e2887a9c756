-- How a message is kept: its octets without its OPT record, and beside them what each record's octets are made of (RFC 1035,
-- section 3.2.1), so that its TTL is found without reading.
use Rattle.std.specs.Prelude.{ℕ, ◌≡◌, ◌≤◌, ◌+◌, ◌-◌, Bool, true, false, List, [], ◌∷◌, ◌++◌, map, take, drop, length, nat_eq, nat_lt, if◌then◌else◌, Option, Some, None, Result, Ok, Err}
use Rattle.std.specs.List.{flat_map}
use Rattle.dns_name.specs.declared.error.ParseError.{ParseError}
use Rattle.dns_name.specs.Labels.{spell}
use Rattle.dns_name.specs.Place.{four}
use Rattle.dns_base.specs.Msg.{IsMessage, Msg, ResourceRecord}
use Rattle.dns_base.specs.Options.{IsOptionList}
use Rattle.dns_base.specs.Replaced.{other_than}
use Rattle.dns_base.specs.Sections.{message_of}
use Rattle.dns_base.specs.Wire.{record_octets, wire}
use Rattle.dns_opt.specs.OptRecords.{OptState}
use Rattle.dns_service.specs.Copied.{copied}
use Rattle.dns_service.specs.LastOpt.{and_opt}
use Rattle.dns_route.specs.Typed.{AreTyped}
use Rattle.dns_cache.specs.declared.marks.Mark.{Mark}
use Rattle.dns_cache.specs.Aged.{aged}
use Rattle.dns_cache.specs.Ttls.{records_of}

-- how many octets stand before the TTL, how many the record has, its TTL, and whether it is an OPT record
abbrev pub mark_of : ResourceRecord → Mark
mark_of r = record { before = length (spell r.owner) + 4; size = length (record_octets r); ttl = r.ttl; is_opt = nat_eq r.rtype 41 }

-- the records that are marked: all of them, or those of other types than OPT
abbrev pub marked_ones : Bool → List ResourceRecord → List ResourceRecord
marked_ones true rs = rs
marked_ones false rs = other_than 41 rs

-- records of typed data were marked after other records
abbrev pub AreMarked : Bool → Result (List ResourceRecord) ParseError → List Mark → List Mark → Type 0
AreMarked all (Ok rs) old new = AreTyped rs × (new ≡ old ++ map mark_of (marked_ones all rs))
AreMarked all (Err e) old new = Unit {0}

-- one record of typed data was marked after other records
abbrev pub IsMarked : Bool → Result ResourceRecord ParseError → List Mark → List Mark → Type 0
IsMarked all (Ok r) old new = AreTyped (r ∷ []) × (new ≡ old ++ map mark_of (marked_ones all (r ∷ [])))
IsMarked all (Err e) old new = Unit {0}

-- the records of a message, which are of typed data, and their marks
pub record HasMarks (m : Msg) (marks : List Mark) : Type 0 where
  pub answers : AreTyped m.answers
  pub authority : AreTyped m.authority
  pub additional : AreTyped m.additional
  pub marked : marks ≡ map mark_of (records_of m)

-- if a message can be copied, its records are marked
abbrev pub MarksOf : Result Msg ParseError → List Mark → Type 0
MarksOf (Ok m) marks = HasMarks m marks
MarksOf (Err e) marks = Unit {0}

-- the records of three sections are marked one after another, the OPT records of the last left out
abbrev pub SectionsMarked : Result (List ResourceRecord) ParseError → Result (List ResourceRecord) ParseError
    → Result (List ResourceRecord) ParseError → List Mark → Type 0
SectionsMarked answers authority additional marks = (m : List Mark) × (n : List Mark) × AreMarked true answers [] m
    × AreMarked true authority m n × AreMarked false additional n marks

-- the TTLs that count, of marked records but OPT
abbrev pub counted_mark : Mark → ℕ
counted_mark k = if nat_lt k.ttl 2147483648 then k.ttl else 0

abbrev pub marked_ttls : List Mark → List ℕ
marked_ttls [] = []
marked_ttls (k ∷ ks) = if k.is_opt then marked_ttls ks else counted_mark k ∷ marked_ttls ks

-- how many octets marked records have
abbrev pub marked_size : List Mark → ℕ
marked_size [] = 0
marked_size (k ∷ ks) = k.size + marked_size ks

-- how many octets an OPT record has, if there is one
abbrev pub opt_size : Option OptState → ℕ
opt_size None = 0
opt_size (Some s) = 11 + length s.options

-- the options of an OPT record are a list, if there is one
abbrev pub IsListed : Option OptState → Type 0
IsListed None = Unit {0}
IsListed (Some s) = IsOptionList s.options × (length s.options ≤ 65535)

-- a message that is written with an OPT record of these options, if there is one, is copied as itself, without it
abbrev pub CopiesAsItself : Msg → Option OptState → Type 0
CopiesAsItself m opt = IsListed opt → IsMessage (and_opt m opt) → copied (wire (and_opt m opt)) ≡ Ok m

-- octets that are a message of typed records without OPT records, the place where its records begin, and their marks
pub record IsKept (o : List ℕ) (start : ℕ) (marks : List Mark) : Type 0 where
  pub lawful : IsMessage (message_of o)
  pub whole : o ≡ wire (message_of o)
  pub short : length o ≤ 65535
  pub within : start ≤ length o
  pub begins : drop start o ≡ flat_map record_octets (records_of (message_of o))
  pub marked : marks ≡ map mark_of (records_of (message_of o))
  pub copies : (request : List ℕ) (age : ℕ) (opt : Option OptState) → CopiesAsItself (aged (message_of o) request age) opt

-- ---- the octets of records whose TTLs are lowered

-- the TTL of a marked record at an age
abbrev pub aged_ttl : ℕ → Mark → ℕ
aged_ttl age k = if k.is_opt then k.ttl else k.ttl - age

-- marked records, each with its TTL at an age
abbrev pub aged_octets : ℕ → List Mark → List ℕ → List ℕ
aged_octets age [] o = []
aged_octets age (k ∷ ks) o = take k.before o
    ++ (four (aged_ttl age k) ++ (drop (k.before + 4) (take k.size o) ++ aged_octets age ks (drop k.size o)))

-- marks of records that stand in octets one after another
abbrev pub MarksFit : List Mark → List ℕ → Type 0
MarksFit [] o = Unit {0}
MarksFit (k ∷ ks) o = (k.before + 4 ≤ k.size) × (k.size ≤ length o) × MarksFit ks (drop k.size o)
