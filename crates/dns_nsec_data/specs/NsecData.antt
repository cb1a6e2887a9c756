-- The data of NSEC records (RFC 4034, section 4.1), and the NSECs of a list of records.
use Rattle.std.specs.Prelude.{ℕ, ◌≡◌, Bool, true, false, List, [], ◌∷◌, ◌++◌, drop, take, Ok, Some}
use Rattle.std.specs.List.{AllPairs, filter, slice_get}
use Rattle.std.specs.List.Sorted.{IsPermutation}
use Rattle.dns_name.specs.Canonical.{same_name}
use Rattle.dns_name.specs.Names.{uncompressed_at}
use Rattle.dns_message.specs.declared.rdata.RecordData.{RecordData}
use Rattle.dns_message.specs.declared.rdata.RecordData.TheVariants.{Unknown}
use Rattle.dns_message.specs.declared.record.Record.{Record}
use Rattle.dns_zone.specs.Owned.{is_of}
use Rattle.dns_denial.specs.Nsecs.{NsecState, is_before}
use Rattle.dns_nsec_data.specs.BitMaps.{SayNone, SayTypes}
use Rattle.dns_nsec_data.specs.declared.nsec_error.NsecError.{NsecError}
use Rattle.dns_nsec_data.specs.declared.nsec_error.NsecError.TheVariants.{Malformed, Twice, OutOfMemory as NoMemory}

-- ---- data

-- "the next owner name", uncompressed (sections 4.1.1 and 6.2), and after it the type bit maps
pub record SaysNext (octets : List ℕ) (next : List (List ℕ)) (types : List ℕ) : Type 0 where
  pub end : ℕ
  pub name : uncompressed_at octets 0 ≡ Ok (next, end)
  pub types_ : SayTypes (drop end octets) types

-- octets that are no NSEC data: no name with type bit maps after it
abbrev pub SaysNothing : List ℕ → Type 0
SaysNothing octets = (next : List (List ℕ)) (end : ℕ) → uncompressed_at octets 0 ≡ Ok (next, end) → SayNone (drop end octets)

-- ---- one record

-- the octets of data of a type like NSEC, whose shape RFC 1035 doesn't know
abbrev pub unknown_octets : RecordData → List ℕ
unknown_octets (Unknown t o) = o
unknown_octets _ = []

-- the NSEC that a record is, and a record that is none
pub record IsNsec (r : Record) (n : NsecState) : Type 0 where
  pub owner : n.owner ≡ r.owner
  pub data_ : SaysNext (unknown_octets r.rdata) n.next n.types

abbrev pub IsNoNsec : Record → Type 0
IsNoNsec r = SaysNothing (unknown_octets r.rdata)

-- ---- lists of records

abbrev pub nsec_records : List Record → List Record
nsec_records rs = filter (is_of 47) rs

-- the NSECs that records are, in their order
abbrev pub AreNsecs : List Record → List NsecState → Type 0
AreNsecs [] [] = Unit {0}
AreNsecs [] (n ∷ ns) = ⊥
AreNsecs (r ∷ rs) [] = ⊥
AreNsecs (r ∷ rs) (n ∷ ns) = IsNsec r n × AreNsecs rs ns

-- the NSECs of the NSEC records of a list, in another order
pub record IsChainOf (rs : List Record) (ns : List NsecState) : Type 0 where
  pub read : List NsecState
  pub nsecs : AreNsecs (nsec_records rs) read
  pub order : IsPermutation read ns

-- the owner of one is before that of another in canonical order
abbrev pub is_ahead : NsecState → NsecState → Bool
is_ahead m n = is_before m.owner n.owner

-- each has an owner of its own
abbrev pub AreApart : List NsecState → Type 0
AreApart ns = AllPairs (λ (m n : NsecState). same_name m.owner n.owner ≡ false) ns

-- ---- refusals

-- the place of the first NSEC record of a list that is no NSEC
pub record IsMalformed (rs : List Record) (i : ℕ) : Type 0 where
  pub one : Record
  pub place : Some one ≡ slice_get rs i
  pub rtype : is_of 47 one ≡ true
  pub none : IsNoNsec one
  pub before : (ns : List NsecState) × AreNsecs (nsec_records (take i rs)) ns

-- not each NSEC has an owner of its own
pub record HasTwice (rs : List Record) : Type 0 where
  pub nsecs : List NsecState
  pub chain : IsChainOf rs nsecs
  pub twice : AreApart nsecs → ⊥

abbrev pub Fails : List Record → NsecError → Type 0
Fails rs (Malformed i) = IsMalformed rs i
Fails rs Twice = HasTwice rs
Fails rs NoMemory = Unit {0}

-- ---- one record more

-- the NSEC of a record is kept; if there is none, it says so
abbrev pub KeepsOne : Record → List NsecState → List NsecState → Bool → Type 0
KeepsOne r old new false = (n : NsecState) × IsNsec r n × (new ≡ old ++ n ∷ [])
KeepsOne r old new true = IsNoNsec r

-- the NSECs of a record are kept, if it is no malformed one
abbrev pub Keeps : Record → List NsecState → List NsecState → Bool → Type 0
Keeps r old new false = (ns : List NsecState) × AreNsecs (nsec_records (r ∷ [])) ns × (new ≡ old ++ ns)
Keeps r old new true = (is_of 47 r ≡ true) × IsNoNsec r
