-- What is made of the text of a zone file (RFC 1035, section 5), and the zones of a generation.
use Rattle.std.specs.Prelude.{ℕ, ◌≡◌, ◌||◌, Bool, true, false, List, [], ◌∷◌, ◌++◌, length, Option, Some, None, Result, Ok, Err}
use Rattle.dns_message.specs.declared.record.Record.{Record}
use Rattle.dns_secondary.specs.Copies.{timers_of}
use Rattle.dns_secondary.specs.declared.timers.SoaTimers.{SoaTimers}
use Rattle.dns_zone_file.specs.ZoneFile.{zone_file}
use Rattle.std.specs.List.{list_any}
use Rattle.dns_zone.specs.Owned.{ZoneState, is_of}
use Rattle.dns_zone_tree.specs.TreeErrors.{Makes, tree_error}
use Rattle.std.specs.declared.vec.Vec.{Vec}
use Rattle.std.specs.declared.alloc.Global.{Global}
use Rattle.dns_authority.specs.Authorities.{AuthorityState, and_data}
use Rattle.dns_authority.specs.ServedZones.{sent_records_of, tree_of}
use Rattle.dns_authority.specs.declared.zone_data.ZoneData.{ZoneData}
use Rattle.dns_authority.specs.declared.zone_data.ZoneData.TheVariants.{Unsigned, Signed, Hashed}
use Rattle.dns_denial.specs.Chains.{IsWhole}
use Rattle.dns_nsec_data.specs.NsecData.{IsChainOf}
use Rattle.dns_signed_zone.specs.MadeZones.{Refuses}
use Rattle.dns_authority.specs.Network.{Network}
use Rattle.dns_signed_zone.specs.SignedZones.{SignedState}
use Rattle.dns_denial.specs.Nsec3.{IsWhole3}
use Rattle.dns_hashed_zone.specs.HashedStates.{HashedState}
use Rattle.dns_hashed_zone.specs.MadeHashed.{IsMadeOf3, Refuses3}
use Rattle.dns_config.specs.declared.prefix.Prefix.{Prefix}
use Rattle.dns_generation.specs.declared.zone_text_error.ZoneTextError.{ZoneTextError}
use Rattle.dns_generation.specs.declared.zone_text_error.ZoneTextError.TheVariants.{Line, NotHashed, NotSigned, NotZone, OutOfMemory}
use Rattle.dns_generation.specs.declared.generation.ZoneSummary.{ZoneSummary}
use Rattle.dns_generation.specs.declared.signing.ZoneSigning.TheVariants.{Unsigned as Bare}
use Rattle.dns_generation.specs.Signings.{zone_signing}

abbrev pub network_of : Prefix → Network
network_of p = record { address = p.address; bits = p.bits }

-- an NSEC3 or NSEC3PARAM record
abbrev pub is_hashing : Record → Bool
is_hashing r = is_of 50 r || is_of 51 r

-- a zone that isn't signed
pub record IsBareOf (z tree : ZoneState) : Type 0 where
  pub is : tree ≡ z
  pub zone : tree_error z.apex z.records ≡ None
  pub none : list_any (is_of 47) z.records ≡ false

-- one whose NSECs are those of its NSEC records, and whose chain is whole (RFC 4035, section 2.3)
pub record IsSignedOf (z : ZoneState) (s : SignedState) : Type 0 where
  pub is : s.zone ≡ z
  pub zone : tree_error z.apex z.records ≡ None
  pub some : list_any (is_of 47) z.records ≡ true
  pub nsecs_ : IsChainOf z.records s.nsecs
  pub whole : IsWhole z s.nsecs

-- one whose NSEC3s are those of its NSEC3 records, and whose chain is whole (RFC 5155, section 7.1)
pub record IsHashedOf (z : ZoneState) (s : HashedState) : Type 0 where
  pub made : IsMadeOf3 z s
  pub whole : IsWhole3 s.zone s.hashing s.nsec3s

abbrev pub IsDataOf : ZoneState → ZoneData → Type 0
IsDataOf z (Unsigned tree) = (list_any is_hashing z.records ≡ false) × IsBareOf z tree
IsDataOf z (Signed s) = (list_any is_hashing z.records ≡ false) × IsSignedOf z s
IsDataOf z (Hashed s) = (list_any is_hashing z.records ≡ true) × IsHashedOf z s

-- a zone that is made of an apex and records, signed where NSEC records are among them, or NSEC3 or NSEC3PARAM records
pub record IsZoneOf (z : ZoneState) (d : ZoneData) : Type 0 where
  pub data_ : IsDataOf z d

-- why there is none
abbrev pub Denies : ZoneState → ZoneTextError → Type 0
Denies z (Line line reason) = ⊥
Denies z (NotZone error) = Makes (tree_error z.apex z.records) z (Err error)
Denies z (NotSigned error) = Refuses z error
Denies z (NotHashed error) = Refuses3 z error
Denies z OutOfMemory = Unit {0}

-- the zone whose apex is the file's origin and whose records are those that the file writes
abbrev pub IsWritten : List (List ℕ) → List ℕ → ZoneData → Type 0
IsWritten apex text d = (records : List Record) × (zone_file apex text ≡ Ok records)
    × IsZoneOf (record { apex = apex; records = records }) d

-- why a zone file isn't served: the line that is refused, or why its records are no zone
abbrev pub HasFault : List (List ℕ) → List ℕ → ZoneTextError → Type 0
HasFault apex text (Line line reason) = zone_file apex text ≡ Err (line, reason)
HasFault apex text (NotZone error) =
    (records : List Record) × (zone_file apex text ≡ Ok records)
    × Makes (tree_error apex records) (record { apex = apex; records = records }) (Err error)
HasFault apex text (NotSigned error) =
    (records : List Record) × (zone_file apex text ≡ Ok records)
    × Refuses (record { apex = apex; records = records }) error
HasFault apex text (NotHashed error) =
    (records : List Record) × (zone_file apex text ≡ Ok records)
    × Refuses3 (record { apex = apex; records = records }) error
HasFault apex text OutOfMemory = Unit {0}

-- what the first SOA record says of copies (RFC 1035, section 3.3.13)
abbrev pub first_or : {A : Type 0} → Option A → Option A → Option A
first_or (Some x) o = Some x
first_or None o = o

abbrev pub timers_among : List Record → Option SoaTimers
timers_among [] = None
timers_among (r ∷ rs) = first_or (timers_of r.rdata) (timers_among rs)

-- a generation: what answers, the apexes of the zones that are served and of those without data, and a summary of each zone in
-- their order
pub record GenerationState : Type 0 where
  pub authority : AuthorityState
  pub served : List (List (List ℕ))
  pub withheld : List (List (List ℕ))
  pub summaries : List ZoneSummary

-- a zone in few words
abbrev pub summary_of : ZoneData → ZoneSummary
summary_of d = record {
  timers = timers_among (tree_of d).records;
  records = length (sent_records_of d);
  signing = zone_signing d;
}

-- the networks that may transfer a zone: its own, or those of the authority if it has none
abbrev pub networks_or : Option (Vec Network Global) → List Network → List Network
networks_or None all = all
networks_or (Some own) all = own.items

-- a zone that these networks may transfer is after the others
abbrev pub with_zone : List Network → ZoneData → GenerationState → GenerationState
with_zone allowed d g = record g {
  authority = and_data allowed d g.authority;
  served = g.served ++ (tree_of d).apex ∷ [];
  summaries = g.summaries ++ summary_of d ∷ [];
}

-- a zone without data is after the others
abbrev pub with_withheld : List (List ℕ) → GenerationState → GenerationState
with_withheld apex g = record g {
  withheld = g.withheld ++ apex ∷ [];
  summaries = g.summaries ++ (record { timers = None; records = 0; signing = Bare }) ∷ [];
}

-- the zone that a file writes, which these networks may transfer, is after the others
pub record AddsFile (apex : List (List ℕ)) (text : List ℕ) (allowed : List Network) (a b : GenerationState) : Type 0 where
  pub zone : ZoneData
  pub written : IsWritten apex text zone
  pub added : b ≡ with_zone allowed zone a
