-- The data of NSEC3 and NSEC3PARAM records (RFC 5155, sections 3 and 4), and the NSEC3s of a list of records.
use Rattle.std.specs.Prelude.{ℕ, ◌≡◌, ◌≤◌, Bool, true, false, ◌&&◌, List, [], ◌∷◌, ◌++◌, length, nat_eq, slice_index, take, if◌then◌else◌, Option, Some, None}
use Rattle.std.specs.List.{AllPairs, filter, slice_get}
use Rattle.std.specs.List.Sorted.{IsPermutation}
use Rattle.std.specs.Str.{bytes_eq}
use Rattle.dns_name.specs.Canonical.{same_name}
use Rattle.dns_name.specs.Place.{two}
use Rattle.dns_word_values.specs.Base32.{base32_octets}
use Rattle.dns_message.specs.declared.record.Record.{Record}
use Rattle.dns_zone.specs.Owned.{is_of}
use Rattle.dns_denial.specs.Hashes.{hashing_error}
use Rattle.dns_denial.specs.Nsec3.{Hashing, Nsec3State, is_lower}
use Rattle.dns_denial.specs.declared.hash.HashingError.{HashingError}
use Rattle.dns_nsec_data.specs.BitMaps.{SayTypes}
use Rattle.dns_nsec_data.specs.NsecData.{unknown_octets}
use Rattle.dns_nsec3_data.specs.declared.nsec3_error.Nsec3Error.{Nsec3Error}
use Rattle.dns_nsec3_data.specs.declared.nsec3_error.Nsec3Error.TheVariants.{Params, Param, Hashing as Unhashed, Malformed, Twice, OutOfMemory as NoMemory}

-- ---- parameters

-- "Hash Alg. | Flags | Iterations | Salt Length | Salt" (sections 3.2 and 4.2), with the algorithm 1, SHA-1
abbrev pub parameters : ℕ → Hashing → List ℕ
parameters flags h = 1 ∷ flags ∷ (two h.iterations ++ length h.salt ∷ h.salt)

-- octets that begin with parameters, and those after them
pub record BeginWithParameters (octets : List ℕ) (flags : ℕ) (h : Hashing) (left : List ℕ) : Type 0 where
  pub octets_ : octets ≡ parameters flags h ++ left

-- octets that begin with none
abbrev pub BeginWithNoParameters : List ℕ → Type 0
BeginWithNoParameters octets = (flags : ℕ) (h : Hashing) (left : List ℕ) → octets ≡ parameters flags h ++ left → ⊥

-- ---- NSEC3PARAM

-- an NSEC3PARAM record that is used: it is at the apex, and its flags are zero. "NSEC3PARAM RRs with a Flags field value other than zero
-- MUST be ignored" (section 4.1.2).
abbrev pub is_used : List (List ℕ) → Record → Bool
is_used apex r = is_of 51 r && (same_name r.owner apex && nat_eq (slice_index (unknown_octets r.rdata) 1) 0)

abbrev pub used_records : List (List ℕ) → List Record → List Record
used_records apex rs = filter (is_used apex) rs

-- those of a zone are the data of its one such record (section 7.3: a server uses those of one chain)
pub record IsParam (apex : List (List ℕ)) (rs : List Record) (h : Hashing) : Type 0 where
  pub one : Record
  pub alone : used_records apex rs ≡ one ∷ []
  pub data_ : unknown_octets one.rdata ≡ parameters 0 h

-- the hashing of a zone, which isn't refused
pub record IsHashing (apex : List (List ℕ)) (rs : List Record) (h : Hashing) : Type 0 where
  pub param : IsParam apex rs h
  pub allowed : hashing_error h.salt h.iterations ≡ None

-- a hashing that isn't refused
pub record IsMadeHashing (of h : Hashing) : Type 0 where
  pub is : h ≡ of
  pub allowed : hashing_error of.salt of.iterations ≡ None

-- ---- NSEC3

-- the hash that the first label of an owner is in base 32, where the apex is after it (section 3)
abbrev pub owner_hash : List (List ℕ) → List (List ℕ) → Option (List ℕ)
owner_hash apex [] = None
owner_hash apex (l ∷ ls) = if same_name ls apex then base32_octets l else None

abbrev pub HasNoHash : List (List ℕ) → List (List ℕ) → Type 0
HasNoHash apex owner = (o : List ℕ) → owner_hash apex owner ≡ Some o → length o ≡ 20 → ⊥

pub record HasHash (apex owner : List (List ℕ)) (o : List ℕ) : Type 0 where
  pub is : owner_hash apex owner ≡ Some o
  pub size : length o ≡ 20

-- "Hash Length | Next Hashed Owner Name | Type Bit Maps" (section 3.2) after parameters, with a hash of 20 octets
pub record SaysNext3 (left next types : List ℕ) : Type 0 where
  pub bits : List ℕ
  pub octets_ : left ≡ 20 ∷ (next ++ bits)
  pub size : length next ≡ 20
  pub types_ : SayTypes bits types

abbrev pub SaysNothing3 : List ℕ → Type 0
SaysNothing3 left = (next types : List ℕ) → SaysNext3 left next types → ⊥

-- parameters of a hashing, with no other flag than Opt-Out
pub record IsFor (flags : ℕ) (of h : Hashing) : Type 0 where
  pub known : flags ≤ 1
  pub same : of ≡ h

-- the NSEC3 that a record is, for a hashing; one with another flag than Opt-Out is none (section 8.2)
pub record IsNsec3 (apex : List (List ℕ)) (h : Hashing) (r : Record) (n : Nsec3State) : Type 0 where
  pub owner : owner_hash apex r.owner ≡ Some n.hash
  pub size : length n.hash ≡ 20
  pub flags : ℕ
  pub known : flags ≤ 1
  pub opt_out_ : n.opt_out ≡ nat_eq flags 1
  pub left : List ℕ
  pub data_ : BeginWithParameters (unknown_octets r.rdata) flags h left
  pub next_ : SaysNext3 left n.next n.types

abbrev pub IsNoNsec3 : List (List ℕ) → Hashing → Record → Type 0
IsNoNsec3 apex h r = (n : Nsec3State) → IsNsec3 apex h r n → ⊥

-- ---- lists of records

abbrev pub nsec3_records : List Record → List Record
nsec3_records rs = filter (is_of 50) rs

-- the NSEC3s that records are, in their order
abbrev pub AreNsec3s : List (List ℕ) → Hashing → List Record → List Nsec3State → Type 0
AreNsec3s apex h [] [] = Unit {0}
AreNsec3s apex h [] (n ∷ ns) = ⊥
AreNsec3s apex h (r ∷ rs) [] = ⊥
AreNsec3s apex h (r ∷ rs) (n ∷ ns) = IsNsec3 apex h r n × AreNsec3s apex h rs ns

-- the NSEC3s of the NSEC3 records of a list, in another order
pub record IsChain3Of (apex : List (List ℕ)) (h : Hashing) (rs : List Record) (ns : List Nsec3State) : Type 0 where
  pub read : List Nsec3State
  pub nsec3s : AreNsec3s apex h (nsec3_records rs) read
  pub order : IsPermutation read ns

-- the hashing and the chain of a list
pub record IsHashedOf3 (apex : List (List ℕ)) (rs : List Record) (h : Hashing) (ns : List Nsec3State) : Type 0 where
  pub hashing : IsHashing apex rs h
  pub chain : IsChain3Of apex h rs ns

-- the hash of one is lower than that of another
abbrev pub is_ahead3 : Nsec3State → Nsec3State → Bool
is_ahead3 m n = is_lower m.hash n.hash

-- each has a hash of its own
abbrev pub AreApart3 : List Nsec3State → Type 0
AreApart3 ns = AllPairs (λ (m n : Nsec3State). bytes_eq m.hash n.hash ≡ false) ns

-- ---- refusals

-- the data of the one NSEC3PARAM record are no such parameters
pub record HasNoParam (apex : List (List ℕ)) (rs : List Record) : Type 0 where
  pub one : Record
  pub alone : used_records apex rs ≡ one ∷ []
  pub none : (h : Hashing) → unknown_octets one.rdata ≡ parameters 0 h → ⊥

-- they are, and are refused
pub record IsRefused (apex : List (List ℕ)) (rs : List Record) (e : HashingError) : Type 0 where
  pub hashing : Hashing
  pub is : IsParam apex rs hashing
  pub error : hashing_error hashing.salt hashing.iterations ≡ Some e

-- the place of the first NSEC3 record of a list that is no NSEC3 for the hashing of the zone
pub record IsMalformed3 (apex : List (List ℕ)) (rs : List Record) (i : ℕ) : Type 0 where
  pub hashing : Hashing
  pub is : IsHashing apex rs hashing
  pub one : Record
  pub place : Some one ≡ slice_get rs i
  pub rtype : is_of 50 one ≡ true
  pub none : IsNoNsec3 apex hashing one
  pub before : (ns : List Nsec3State) × AreNsec3s apex hashing (nsec3_records (take i rs)) ns

-- not each NSEC3 has a hash of its own
pub record HasTwice3 (apex : List (List ℕ)) (rs : List Record) : Type 0 where
  pub hashing : Hashing
  pub is : IsHashing apex rs hashing
  pub nsec3s : List Nsec3State
  pub chain : IsChain3Of apex hashing rs nsec3s
  pub twice : AreApart3 nsec3s → ⊥

abbrev pub FailsBy : Hashing → Nsec3Error → Type 0
FailsBy h (Params n) = ⊥
FailsBy h Param = ⊥
FailsBy h (Unhashed e) = hashing_error h.salt h.iterations ≡ Some e
FailsBy h (Malformed i) = ⊥
FailsBy h Twice = ⊥
FailsBy h NoMemory = Unit {0}

abbrev pub Fails3 : List (List ℕ) → List Record → Nsec3Error → Type 0
Fails3 apex rs (Params n) = (length (used_records apex rs) ≡ n) × (nat_eq n 1 ≡ false)
Fails3 apex rs Param = HasNoParam apex rs
Fails3 apex rs (Unhashed e) = IsRefused apex rs e
Fails3 apex rs (Malformed i) = IsMalformed3 apex rs i
Fails3 apex rs Twice = HasTwice3 apex rs
Fails3 apex rs NoMemory = Unit {0}

-- ---- one record more

-- the NSEC3 of a record is kept; if there is none, it says so
abbrev pub KeepsOne3 : List (List ℕ) → Hashing → Record → List Nsec3State → List Nsec3State → Bool → Type 0
KeepsOne3 apex h r old new false = (n : Nsec3State) × IsNsec3 apex h r n × (new ≡ old ++ n ∷ [])
KeepsOne3 apex h r old new true = IsNoNsec3 apex h r

-- the NSEC3s of a record are kept, if it is no malformed one
abbrev pub Keeps3 : List (List ℕ) → Hashing → Record → List Nsec3State → List Nsec3State → Bool → Type 0
Keeps3 apex h r old new false = (ns : List Nsec3State) × AreNsec3s apex h (nsec3_records (r ∷ [])) ns × (new ≡ old ++ ns)
Keeps3 apex h r old new true = (is_of 50 r ≡ true) × IsNoNsec3 apex h r
