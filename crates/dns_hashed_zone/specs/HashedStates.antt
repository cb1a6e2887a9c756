-- A zone that is signed with NSEC3, and its records in two lists.
use Rattle.std.specs.Prelude.{ℕ, zero, suc, ◌≡◌, Bool, ◌||◌, not, List, [], ◌∷◌, ◌++◌, length, map, Some}
use Rattle.std.specs.List.{AllByRecursion, filter}
use Rattle.std.specs.List.Sorted.{IsPermutation}
use Rattle.std.specs.declared.vec.Vec.{Vec}
use Rattle.std.specs.declared.alloc.Global.{Global}
use Rattle.dns_message.specs.declared.record.Record.{Record}
use Rattle.dns_zone.specs.Owned.{AreLawful, ZoneState, is_of}
use Rattle.dns_denial.specs.Nsec3.{Hashing, IsWhole3, Nsec3State}
use Rattle.dns_denial.specs.Signed.{is_signature}
use Rattle.dns_nsec3_data.specs.Nsec3Data.{owner_hash}

-- an NSEC3 record, or an RRSIG that covers one: their owners are no names of the zone (RFC 5155, section 7.2.8)
abbrev pub is_hashed : Record → Bool
is_hashed r = is_of 50 r || is_signature 50 r

abbrev pub named_records : List Record → List Record
named_records rs = filter (λ (r : Record). not (is_hashed r)) rs

abbrev pub hashed_records : List Record → List Record
hashed_records rs = filter is_hashed rs

-- the zone of the names, its hashing, its NSEC3s in the order of their hashes, and for each its records
pub record HashedState : Type 0 where
  pub zone : ZoneState
  pub hashing : Hashing
  pub nsec3s : List Nsec3State
  pub groups : List (List Record)

-- lists, one after another
abbrev pub joined : List (List Record) → List Record
joined [] = []
joined (rs ∷ rss) = rs ++ joined rss

-- all its records
abbrev pub all_records : HashedState → List Record
all_records s = s.zone.records ++ joined s.groups

-- the records of an NSEC3 have its owner
abbrev pub IsGroup : List (List ℕ) → Nsec3State → List Record → Type 0
IsGroup apex n rs = AllByRecursion (λ (r : Record). owner_hash apex r.owner ≡ Some n.hash) rs

abbrev pub AreGroups : List (List ℕ) → List Nsec3State → List (List Record) → Type 0
AreGroups apex [] [] = Unit {0}
AreGroups apex [] (g ∷ gs) = ⊥
AreGroups apex (n ∷ ns) [] = ⊥
AreGroups apex (n ∷ ns) (g ∷ gs) = IsGroup apex n g × AreGroups apex ns gs

-- the chain is whole for the names, and the records are those of the NSEC3s
pub record IsSigned3 (s : HashedState) : Type 0 where
  pub whole : IsWhole3 s.zone s.hashing s.nsec3s
  pub groups_ : AreGroups s.zone.apex s.nsec3s s.groups
  pub lawful : AreLawful (joined s.groups)

-- and that many are all
pub record IsKept (s : HashedState) (count : ℕ) : Type 0 where
  pub signed : IsSigned3 s
  pub counted : count ≡ length (all_records s)

-- records that were parted, and grouped: for each NSEC3 those of its owner
pub record ArePartsOf (rs named_ hashed_ : List Record) : Type 0 where
  pub named_is : named_ ≡ named_records rs
  pub hashed_is : hashed_ ≡ hashed_records rs

pub record AreGroupsOf (apex : List (List ℕ)) (ns : List Nsec3State) (rs : List Record) (gs : List (List Record)) : Type 0 where
  pub groups_ : AreGroups apex ns gs
  pub all : IsPermutation rs (joined gs)

-- a record more in the group at a place
abbrev pub with_record : ℕ → Record → List (List Record) → List (List Record)
with_record k r [] = []
with_record zero r (g ∷ gs) = (g ++ r ∷ []) ∷ gs
with_record (suc k) r (g ∷ gs) = g ∷ with_record k r gs

-- a list of records for each of so many NSEC3s, none with a record
pub record AreEmpty (gs : List (List Record)) (count : ℕ) : Type 0 where
  pub many : length gs ≡ count
  pub none : joined gs ≡ []

abbrev pub items_of : List (Vec Record Global) → List (List Record)
items_of vs = map (λ (v : Vec Record Global). v.items) vs
