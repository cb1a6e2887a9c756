-- Records of other types (RFC 1035, section 3.2.1), and a built message that keeps only those in its last section.
use Rattle.std.specs.Prelude.{ℕ, ◌≡◌, ◌+◌, ◌-◌, ◌≤◌, List, [], ◌∷◌, ◌++◌, length, drop, nat_eq, if◌then◌else◌, Ok, Err}
use Rattle.std.specs.List.{flat_map, AllByRecursion}
use Rattle.dns_name.specs.Place.{Read}
use Rattle.dns_base.specs.Msg.{ResourceRecord, HasOwner}
use Rattle.dns_base.specs.Wire.{record_octets}
use Rattle.dns_base.specs.Standing.{record_at}
use Rattle.dns_base.specs.Sections.{items_from}
use Rattle.dns_base.specs.Built.{Built}

-- the records of other types, in order
abbrev pub other_than : ℕ → List ResourceRecord → List ResourceRecord
other_than t [] = []
other_than t (r ∷ rs) = if nat_eq r.rtype t then other_than t rs else r ∷ other_than t rs

-- the built message whose additional records are those of other types
abbrev pub less_type : ℕ → Built → Built
less_type t b = record b { message = record b.message { additional = other_than t b.message.additional } }

-- what is kept of a record of a type between two places, if records of another type are dropped: how many records, how many
-- octets, and the end
abbrev pub kept_part : ℕ → ℕ → ℕ → ℕ → ℕ × ℕ × ℕ
kept_part kind t at end = if nat_eq kind t then (0, 0, end) else (1, end - at, end)

-- what is kept of a record that was read at a place, if records of a type are dropped; nothing of a refused one
abbrev pub kept_of : ℕ → ℕ → Read ResourceRecord → ℕ × ℕ × ℕ
kept_of t at (Ok x) = kept_part x.0.rtype t at x.1
kept_of t at (Err e) = (0, 0, at)

-- that many records from a place on
abbrev pub records_at : List ℕ → ℕ → ℕ → List ResourceRecord
records_at o count at = (items_from (record_at o) count at).0

-- the octets of records
abbrev pub spelling : List ResourceRecord → List ℕ
spelling rs = flat_map record_octets rs

-- that many records from a place on are readable, and stand there with their names uncompressed
pub record AreSpelt (o : List ℕ) (count at : ℕ) : Type 0 where
  pub many : length (records_at o count at) ≡ count
  pub named : AllByRecursion HasOwner (records_at o count at)
  pub within : at ≤ length o
  pub stand : drop at o ≡ spelling (records_at o count at) ++ drop (at + length (spelling (records_at o count at))) o

-- what is after that many records
abbrev pub behind_records : List ℕ → ℕ → ℕ → List ℕ
behind_records o count at = drop (at + length (spelling (records_at o count at))) o
