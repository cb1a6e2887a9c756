-- OPT records (RFC 6891, sections 6.1.2 and 6.1.3).
use Rattle.std.specs.Prelude.{ℕ, ◌+◌, ◌*◌, ◌/◌, ◌%◌, Bool, List, [], ◌∷◌, length, Option, Some, None, Result, Ok, Err, nat_lt, nat_le, nat_eq, option_map, slice_index, if◌then◌else◌}
use Rattle.dns_name.specs.declared.error.ParseError.{ParseError}
use Rattle.dns_name.specs.declared.error.ParseError.TheVariants.{ShortInput}
use Rattle.dns_name.specs.Place.{be16}
use Rattle.dns_message.specs.declared.rdata.RecordData.{RecordData}
use Rattle.dns_message.specs.declared.rdata.RecordData.TheVariants.{Opt as OptList}
use Rattle.dns_message.specs.declared.record.Record.{Record}
use Rattle.dns_base.specs.Msg.{ResourceRecord}
use Rattle.dns_base.specs.Options.{option_list}
use Rattle.dns_base.specs.Sections.{authority_of, reached, standing_additional}
use Rattle.dns_base.specs.Standing.{Standing}

-- the greatest payload over UDP, the upper eight bits of the response code, the version and the flags
pub record OptHead : Type 0 where
  pub size : ℕ
  pub ext : ℕ
  pub version : ℕ
  pub flags : ℕ

abbrev pub zero_head : OptHead
zero_head = record { size = 0; ext = 0; version = 0; flags = 0 }

-- the flag DO is the top one of sixteen
abbrev pub is_do : ℕ → Bool
is_do flags = nat_le 32768 flags

abbrev pub with_do : ℕ → Bool → ℕ
with_do flags set = flags % 32768 + (if set then 32768 else 0)

-- the root's name, the type 41, and the head
abbrev pub head_octets : OptHead → List ℕ
head_octets h = 0 ∷ 0 ∷ 41 ∷ h.size / 256 ∷ h.size % 256 ∷ h.ext ∷ h.version ∷ h.flags / 256 ∷ h.flags % 256 ∷ []

abbrev pub head_in : List ℕ → OptHead
head_in d = record {
  size = be16 (slice_index d 3) (slice_index d 4);
  ext = slice_index d 5;
  version = slice_index d 6;
  flags = be16 (slice_index d 7) (slice_index d 8);
}

-- the head that stands after one octet of name and two of type
abbrev pub head_of : List ℕ → Result OptHead ParseError
head_of d = if nat_lt (length d) 9 then Err ShortInput else Ok (head_in d)

-- an OPT record: its head and its options
pub record OptState : Type 0 where
  pub head : OptHead
  pub options : List ℕ

abbrev pub opt_state : OptHead → List ℕ → OptState
opt_state h o = record { head = h; options = o }

-- the class is the size, the TTL the upper bits of the response code, the version and the flags
abbrev pub opt_record : OptState → ResourceRecord
opt_record s = record {
  owner = [];
  rtype = 41;
  class = s.head.size;
  ttl = 16777216 * s.head.ext + 65536 * s.head.version + s.head.flags;
  rdata = s.options;
}

abbrev pub head_by : ℕ → ℕ → OptHead
head_by class ttl = record { size = class; ext = ttl / 16777216; version = ttl / 65536 % 256; flags = ttl % 65536 }

-- the OPT record of a head and an option list, none if the octets were refused as one
abbrev pub opt_with : OptHead → Result (List ℕ) ParseError → Option OptState
opt_with h (Ok o) = Some (opt_state h o)
opt_with h (Err e) = None

abbrev pub from_data : OptHead → RecordData → Option OptState
from_data h (OptList o) = opt_with h (option_list o)
from_data h _ = None

-- the OPT record that a record is, none if its type is another or its data is no option list
abbrev pub from_record : Record → Option OptState
from_record r = from_data (head_by r.class r.ttl) r.rdata

-- ---- the OPT record of a message

-- the record, if octets are an option list
abbrev pub where_list : ResourceRecord → Result (List ℕ) ParseError → Option ResourceRecord
where_list r (Ok o) = Some r
where_list r (Err e) = None

-- the record, if its data is an option list
abbrev pub listed : ResourceRecord → Option ResourceRecord
listed r = where_list r (option_list r.rdata)

-- the head and the options that a record of type OPT is
abbrev pub opt_state_of : ResourceRecord → OptState
opt_state_of r = opt_state (head_by r.class r.ttl) r.rdata

-- the head and the options of a record, none if its data is no option list
abbrev pub readable_opt : ResourceRecord → Option OptState
readable_opt r = option_map opt_state_of (listed r)

-- the first record of type OPT, none if it, or a record before it, is unreadable
abbrev pub first_opt : List (Result Standing ParseError) → Option OptState
first_opt [] = None
first_opt (Err e ∷ more) = None
first_opt (Ok s ∷ more) = if nat_eq s.resource.rtype 41 then readable_opt s.resource else first_opt more

abbrev pub opt_in : Result (List (Result Standing ParseError)) ParseError → Option OptState
opt_in (Ok more) = first_opt more
opt_in (Err e) = None

-- the OPT record of octets that are a message; none if its additional section can't be reached
abbrev pub opt_of : List ℕ → Option OptState
opt_of o = opt_in (reached (authority_of o).1 (standing_additional o))

-- ---- the OPT record among records

-- the first record of type OPT, as it stands; none if its data is no option list
abbrev pub opt_record_among : List ResourceRecord → Option ResourceRecord
opt_record_among [] = None
opt_record_among (r ∷ rs) = if nat_eq r.rtype 41 then listed r else opt_record_among rs
