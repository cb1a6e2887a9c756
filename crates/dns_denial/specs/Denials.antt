-- Which NSECs of a zone deny what a reply says is absent (RFC 4035, section 3.1.3).
use Rattle.std.specs.Prelude.{ℕ, ◌≡◌, ◌<◌, ◌⊎◌, length, Bool, true, false, ◌&&◌, not, List, [], ◌∷◌, nat_eq, Option, MatchOption}
use Rattle.std.specs.Borrow.{Bor}
use Rattle.std.specs.List.{Contains, list_any}
use Rattle.dns_name.specs.Canonical.{same_name}
use Rattle.dns_name.specs.Labels.{IsName, spell}
use Rattle.dns_message.specs.declared.record.Record.{Record}
use Rattle.dns_route.specs.Routes.{ends_name}
use Rattle.dns_zone.specs.Cuts.{is_cut_off}
use Rattle.dns_zone.specs.Owned.{ZoneState, is_asked, is_of}
use Rattle.dns_zone.specs.ZoneReply.{exists, follows}
use Rattle.dns_zone_tree.specs.Wildcards.{wildcard}
use Rattle.dns_denial.specs.Nsecs.{NsecState, is_before}
use Rattle.dns_denial.specs.Validation.{proves_expansion, proves_insecure, proves_name_error, proves_no_data, proves_wildcard_no_data, shown_encloser, shown_wildcard}
use Rattle.dns_denial.specs.Chains.{IsDeniable, IsWhole, is_below_cut, is_record_at}

-- the last NSEC whose owner is not after a name
pub record IsLast (ns : List NsecState) (name : List (List ℕ)) (n : NsecState) : Type 0 where
  pub one : Contains ns n
  pub upto : is_before name n.owner ≡ false
  pub last : (m : NsecState) → Contains ns m → is_before name m.owner ≡ false → is_before n.owner m.owner ≡ false

-- whether a name is below a DNAME (RFC 6672, section 2.4)
abbrev pub is_under_dname : ZoneState → List (List ℕ) → Bool
is_under_dname z name = list_any (λ (r : Record). is_of 39 r && (ends_name name r.owner && not (same_name r.owner name))) z.records

-- a name for which the zone itself answers: it is not at or below a cut, and not below a DNAME
pub record IsAnswered (z : ZoneState) (name : List (List ℕ)) : Type 0 where
  pub cut : is_cut_off z name ≡ false
  pub dname : is_under_dname z name ≡ false

-- a name has no records of a type, nor an alias that would be followed
pub record HasNone (z : ZoneState) (name : List (List ℕ)) (t : ℕ) : Type 0 where
  pub none : list_any (is_asked name t) z.records ≡ false
  pub alias : (follows t && list_any (is_asked name 5) z.records) ≡ false

-- a question that can be denied: RRSIG and NSEC are there wherever a name is, and DS at the apex is the parent's to deny
pub record CanBeDenied (z : ZoneState) (name : List (List ℕ)) (t : ℕ) : Type 0 where
  pub deniable : IsDeniable t
  pub parent : (nat_eq t 43 && same_name name z.apex) ≡ false

-- ---- what chosen NSECs prove of each zone whose chain they are from

-- of a name that doesn't exist, nor does the wildcard that could stand for it (section 3.1.3.2)
abbrev pub ProvesNameError : List NsecState → List (List ℕ) → NsecState → NsecState → Type 0
ProvesNameError ns name n m = (z : ZoneState) → IsWhole z ns → IsAnswered z name → exists z name ≡ false
    → exists z (wildcard z name) ≡ false → proves_name_error z.apex (n ∷ m ∷ []) name ≡ true

-- of a name that exists and has no records of a type (section 3.1.3.1)
abbrev pub ProvesNoData : List NsecState → List (List ℕ) → NsecState → Type 0
ProvesNoData ns name n = (z : ZoneState) (t : ℕ) → IsWhole z ns → IsAnswered z name → exists z name ≡ true → HasNone z name t
    → CanBeDenied z name t → proves_no_data z.apex (n ∷ []) name t ≡ true

-- of a name that doesn't exist, if a wildcard stands for it that has no records of a type (section 3.1.3.4)
abbrev pub ProvesWildcardNoData : List NsecState → List (List ℕ) → NsecState → NsecState → Type 0
ProvesWildcardNoData ns name n m = (z : ZoneState) (t : ℕ) → IsWhole z ns → ends_name name z.apex ≡ true → IsAnswered z name
    → exists z name ≡ false
    → exists z (wildcard z name) ≡ true → HasNone z (wildcard z name) t → IsDeniable t
    → proves_wildcard_no_data z.apex (n ∷ m ∷ []) name t ≡ true

-- of a name that doesn't exist, if a wildcard's records are given for it (section 3.1.3.3)
abbrev pub ProvesExpansion : List NsecState → List (List ℕ) → NsecState → Type 0
ProvesExpansion ns name n = (z : ZoneState) → IsWhole z ns → IsAnswered z name → exists z name ≡ false
    → proves_expansion z.apex (n ∷ []) name (wildcard z name) ≡ true

-- a delegation point below no other one, without DS
pub record IsUnsigned (z : ZoneState) (cut : List (List ℕ)) : Type 0 where
  pub servers : list_any (is_record_at cut 2) z.records ≡ true
  pub inner : same_name cut z.apex ≡ false
  pub first : is_below_cut z cut ≡ false
  pub unsigned : list_any (is_record_at cut 43) z.records ≡ false

-- if it is referred to (section 3.1.4)
abbrev pub ProvesInsecure : List NsecState → List (List ℕ) → NsecState → Type 0
ProvesInsecure ns cut n = (z : ZoneState) → IsWhole z ns → IsUnsigned z cut → proves_insecure (n ∷ []) cut ≡ true

-- if its DS is asked for (section 3.1.4.1)
abbrev pub ProvesNoDs : List NsecState → List (List ℕ) → NsecState → Type 0
ProvesNoDs ns cut n = (z : ZoneState) → IsWhole z ns → IsUnsigned z cut → list_any (is_record_at cut 5) z.records ≡ false
    → proves_no_data z.apex (n ∷ []) cut 43 ≡ true

-- ---- laws

-- what is proved by the last NSEC that is not after a name, and the last one not after the wildcard which that one shows
abbrev pub NameErrorsAreProved : Type 0
NameErrorsAreProved = (ns : List NsecState) (name : List (List ℕ)) (n m : NsecState) → IsLast ns name n
    → IsLast ns (shown_wildcard n name) m → ProvesNameError ns name n m

abbrev pub NoDataIsProved : Type 0
NoDataIsProved = (ns : List NsecState) (name : List (List ℕ)) (n : NsecState) → IsLast ns name n → ProvesNoData ns name n

abbrev pub WildcardNoDataIsProved : Type 0
WildcardNoDataIsProved = (ns : List NsecState) (name : List (List ℕ)) (n m : NsecState) → IsLast ns name n
    → IsLast ns (shown_wildcard n name) m → ProvesWildcardNoData ns name n m

abbrev pub ExpansionsAreProved : Type 0
ExpansionsAreProved = (ns : List NsecState) (name : List (List ℕ)) (n : NsecState) → IsLast ns name n → ProvesExpansion ns name n

abbrev pub InsecureDelegationsAreProved : Type 0
InsecureDelegationsAreProved = (ns : List NsecState) (cut : List (List ℕ)) (n : NsecState) → IsLast ns cut n → ProvesInsecure ns cut n

-- DS that is asked of the parent
abbrev pub DsIsProvedAbsent : Type 0
DsIsProvedAbsent = (ns : List NsecState) (cut : List (List ℕ)) (n : NsecState) → IsLast ns cut n → ProvesNoDs ns cut n

-- ---- if no NSEC is chosen

-- no NSEC is before a name, nor at it
abbrev pub AllBehind : List NsecState → List (List ℕ) → Type 0
AllBehind ns name = (m : NsecState) → Contains ns m → is_before name m.owner ≡ true

-- the last that is not after a name, if there is one
abbrev pub IsLastOf : List NsecState → List (List ℕ) → Option (Bor NsecState) → Type 0
IsLastOf ns name o = MatchOption o (AllBehind ns name) (λ n. IsLast ns name n.now)

-- the wildcard which an NSEC shows of a name is too long
abbrev pub IsTooLong : NsecState → List (List ℕ) → Type 0
IsTooLong n name = IsName name × (253 < length (spell (shown_encloser n name)))

-- no NSEC is before the wildcard which one shows of a name, nor at it, or that wildcard is too long
abbrev pub NoneBelow : List NsecState → NsecState → List (List ℕ) → Type 0
NoneBelow ns n name = IsTooLong n name ⊎ AllBehind ns (shown_wildcard n name)

-- the last that is not after that wildcard, if there is one
abbrev pub IsLastBelow : List NsecState → NsecState → List (List ℕ) → Option (Bor NsecState) → Type 0
IsLastBelow ns n name o = MatchOption o (NoneBelow ns n name) (λ m. IsLast ns (shown_wildcard n name) m.now)

-- the last that is not after a name, and the last that is not after the wildcard which that one shows
abbrev pub AreLast : List NsecState → List (List ℕ) → NsecState → NsecState → Type 0
AreLast ns name n m = IsLast ns name n × IsLast ns (shown_wildcard n name) m

-- a chain that is whole for no zone which a name that doesn't exist is in
abbrev pub HasNoZone : List NsecState → List (List ℕ) → Type 0
HasNoZone ns name = (z : ZoneState) → IsWhole z ns → ends_name name z.apex ≡ true → IsAnswered z name → exists z name ≡ false → ⊥
