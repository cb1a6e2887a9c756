-- Marked records that stand in octets one after another, and what they are at an age (RFC 1035, section 3.2.1).
use Rattle.std.specs.Prelude.{ℕ, ◌≡◌, ◌≤◌, List, [], ◌∷◌, length, map, take, drop}
use Rattle.std.specs.List.{flat_map}
use Rattle.dns_base.specs.Msg.{HasOwner, ResourceRecord}
use Rattle.dns_base.specs.Replaced.{records_at}
use Rattle.dns_base.specs.Wire.{record_octets}
use Rattle.dns_cache.specs.Aged.{aged_record}
use Rattle.dns_cache.specs.Marks.{mark_of}
use Rattle.dns_cache.specs.declared.marks.Mark.{Mark}

-- the first of records, or the root's of zeros
abbrev pub first_record : List ResourceRecord → ResourceRecord
first_record [] = record { owner = []; rtype = 0; class = 0; ttl = 0; rdata = [] }
first_record (r ∷ rs) = r

-- the record that stands in octets, its names uncompressed
abbrev pub record_in : List ℕ → ResourceRecord
record_in o = first_record (records_at o 1 0)

-- octets are one record, and this is its mark
pub record IsMarkedRecord (k : Mark) (o : List ℕ) : Type 0 where
  pub named : HasOwner (record_in o)
  pub whole : o ≡ record_octets (record_in o)
  pub marked : k ≡ mark_of (record_in o)
  pub short : length o ≤ 65535

-- octets are records one after another, and these are their marks
abbrev pub AreMarkedRecords : List Mark → List ℕ → Type 0
AreMarkedRecords [] o = Unit {0}
AreMarkedRecords (k ∷ ks) o = (k.size ≤ length o) × IsMarkedRecord k (take k.size o) × AreMarkedRecords ks (drop k.size o)

-- those records, each with its TTL at an age
abbrev pub aged_records : ℕ → List Mark → List ℕ → List ResourceRecord
aged_records age [] o = []
aged_records age (k ∷ ks) o = aged_record age (record_in (take k.size o)) ∷ aged_records age ks (drop k.size o)

-- these marks and these octets are those of records
abbrev pub AreTheirs : List ResourceRecord → List Mark → List ℕ → Type 0
AreTheirs rs marks o = (marks ≡ map mark_of rs) × (o ≡ flat_map record_octets rs)
