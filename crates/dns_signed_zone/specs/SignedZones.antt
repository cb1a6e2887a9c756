-- A zone with the chain of its NSEC records, and the NSECs of a reply.
use Rattle.std.specs.Prelude.{ℕ, ◌≡◌, true, List, [], ◌∷◌, ◌++◌, Option, Some, None}
use Rattle.std.specs.List.{Contains}
use Rattle.std.specs.Option.{option_copied}
use Rattle.dns_message.specs.declared.record.Record.{Record}
use Rattle.dns_zone.specs.Owned.{ZoneState}
use Rattle.dns_zone.specs.Places.{at_places}
use Rattle.dns_zone_tree.specs.Kinds.{kind_places}
use Rattle.dns_zone_tree.specs.declared.kinds.Kinds.{Kinds}
use Rattle.dns_denial.specs.Accepted.{is_accepted}
use Rattle.dns_denial.specs.Denials.{AllBehind, AreLast, CanBeDenied, HasNoZone, IsLast}
use Rattle.dns_denial.specs.Nsecs.{NsecState}
use Rattle.dns_signed_zone.specs.declared.reply_proofs.Proofs.{Proofs}

pub record SignedState : Type 0 where
  pub zone : ZoneState
  pub nsecs : List NsecState

abbrev pub one_of : Option NsecState → List NsecState
one_of None = []
one_of (Some n) = n ∷ []

-- the first and the second NSEC, if they are
abbrev pub proved_by : Option NsecState → Option NsecState → List NsecState
proved_by a b = one_of a ++ one_of b

abbrev pub proofs_in : Proofs → List NsecState
proofs_in p = proved_by (option_copied p.first) (option_copied p.second)

-- What a name server replies for a name is accepted with them (RFC 4035, section 5.4).
abbrev pub AreAccepted : SignedState → ℕ → List (List ℕ) → List NsecState → Type 0
AreAccepted s t name ns = CanBeDenied s.zone name t → is_accepted s.zone ns t name ≡ true

-- No other zone's are among them.
abbrev pub AreOfZone : SignedState → List NsecState → Type 0
AreOfZone s ns = (n : NsecState) → Contains ns n → Contains s.nsecs n

-- NSECs that are accepted, and the zone's
pub record Proves (s : SignedState) (t : ℕ) (name : List (List ℕ)) (ns : List NsecState) : Type 0 where
  pub accepted : AreAccepted s t name ns
  pub of_zone : AreOfZone s ns

-- ---- what is chosen

abbrev pub head_of : List Record → Option Record
head_of [] = None
head_of (r ∷ rs) = Some r

-- the NS records at the places of a name's records
abbrev pub servers_at : ZoneState → Kinds → List Record
servers_at z m = at_places z.records (kind_places 2 m)

-- the last NSEC that is not after a name, if there is one
abbrev pub IsAlone : List NsecState → List (List ℕ) → Option NsecState → Option NsecState → Type 0
IsAlone ns name None b = AllBehind ns name
IsAlone ns name (Some n) b = IsLast ns name n × (b ≡ None)

abbrev pub IsOne : List NsecState → List (List ℕ) → Proofs → Type 0
IsOne ns name p = IsAlone ns name (option_copied p.first) (option_copied p.second)

-- two NSECs: the last that is not after a name, and the last that is not after the wildcard which the first shows
abbrev pub ArePair : List NsecState → List (List ℕ) → Option NsecState → Option NsecState → Type 0
ArePair ns name None b = HasNoZone ns name
ArePair ns name (Some n) None = ⊥
ArePair ns name (Some n) (Some m) = AreLast ns name n m

-- the NSECs that are given for a name: the last that is not after it, and the last that is not after its wildcard
abbrev pub IsTwo : List NsecState → List (List ℕ) → Proofs → Type 0
IsTwo ns name p = ArePair ns name (option_copied p.first) (option_copied p.second)
