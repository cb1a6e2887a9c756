-- The records of a zone by owner and type (RFC 1034, section 3.6). Owners are compared up to ASCII case (RFC 4343, section 3),
-- and records always stand in the order of the list.
use Rattle.std.specs.Prelude.{ℕ, Bool, ◌||◌, ◌&&◌, List, nat_eq, Option, Some, None}
use Rattle.std.specs.List.{AllByRecursion, filter}
use Rattle.dns_name.specs.Canonical.{same_name}
use Rattle.dns_base.specs.Records.{IsLawful, data_type}
use Rattle.dns_message.specs.TypedData.{HasNames, IsTyped}
use Rattle.dns_message.specs.declared.rdata.RecordData.{RecordData}
use Rattle.dns_message.specs.declared.rdata.RecordData.TheVariants.{Named}
use Rattle.dns_message.specs.declared.record.Record.{Record}

-- the name at which a zone begins, and its records
pub record ZoneState : Type 0 where
  pub apex : List (List ℕ)
  pub records : List Record

abbrev pub HasLawfulData : Record → Type 0
HasLawfulData r = IsLawful r.rdata

-- each name in the data is a name
abbrev pub HasNamedData : Record → Type 0
HasNamedData r = HasNames r.rdata

-- data that can be written and read again
abbrev pub HasTypedData : Record → Type 0
HasTypedData r = IsTyped r.rdata

-- the data of each record can be written
abbrev pub AreLawful : List Record → Type 0
AreLawful rs = AllByRecursion HasLawfulData rs

abbrev pub is_of : ℕ → Record → Bool
is_of t r = nat_eq (data_type r.rdata) t

abbrev pub is_owned : List (List ℕ) → Record → Bool
is_owned name r = same_name r.owner name

-- whether a name owns a record of a type; type 255 asks for any (RFC 1035, section 3.2.3)
abbrev pub is_asked : List (List ℕ) → ℕ → Record → Bool
is_asked name t r = is_owned name r && (nat_eq t 255 || is_of t r)

-- the records of a type that a name owns
abbrev pub asked_records : ZoneState → List (List ℕ) → ℕ → List Record
asked_records z name t = filter (is_asked name t) z.records

-- the name that data is, if it is one
abbrev pub target : RecordData → Option (List (List ℕ))
target (Named t n) = Some n
target _ = None
