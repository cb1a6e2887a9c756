-- What a validator asks of the NSECs of a reply, by the case of the reply: that of a name server (RFC 1034, section 4.3.2; RFC 4592;
-- RFC 6672) to a question for a name that it is asked for, or that an alias led to (RFC 4035, section 3.1.3).
use Rattle.std.specs.Prelude.{ℕ, ◌≡◌, Bool, true, false, ◌||◌, ◌&&◌, List, [], ◌∷◌, if◌then◌else◌}
use Rattle.std.specs.List.{Contains}
use Rattle.dns_message.specs.declared.record.Record.{Record}
use Rattle.dns_route.specs.Routes.{ends_name}
use Rattle.dns_zone.specs.Owned.{ZoneState, asked_records}
use Rattle.dns_zone.specs.ZoneReply.{exists, follows}
use Rattle.dns_zone_tree.specs.Regions.{Region, Within, BelowCut, BelowDname, asked_region}
use Rattle.dns_zone_tree.specs.Wildcards.{are_some, had_records, wildcard}
use Rattle.dns_denial.specs.Nsecs.{NsecState}
use Rattle.dns_denial.specs.Validation.{proves_expansion, proves_insecure, proves_name_error, proves_no_data, proves_wildcard_no_data, shown_wildcard}
use Rattle.dns_denial.specs.Chains.{IsWhole}
use Rattle.dns_denial.specs.Denials.{CanBeDenied, IsLast}

-- whether a reply has records for a name: those of the type, or an alias that is followed
abbrev pub is_given : ZoneState → ℕ → List (List ℕ) → Bool
is_given z t name = are_some (had_records z name t) || (follows t && are_some (had_records z name 5))

-- records, of the name itself or of its wildcard; no data; no data at the wildcard; no such name
abbrev pub is_accepted_within : ZoneState → List NsecState → ℕ → List (List ℕ) → Bool
is_accepted_within z ns t name =
    if is_given z t name then (exists z name || proves_expansion z.apex ns name (wildcard z name))
    else (if exists z name then proves_no_data z.apex ns name t
    else (if exists z (wildcard z name) then proves_wildcard_no_data z.apex ns name t
    else proves_name_error z.apex ns name))

-- the owner of NS records
abbrev pub servers_owner : List Record → List (List ℕ)
servers_owner [] = []
servers_owner (r ∷ rs) = r.owner

-- a referral has the DS records, or there are none; a DNAME record denies nothing
abbrev pub is_accepted_by : ZoneState → List NsecState → ℕ → List (List ℕ) → Region → Bool
is_accepted_by z ns t name Within = is_accepted_within z ns t name
is_accepted_by z ns t name (BelowCut servers) = are_some (asked_records z (servers_owner servers) 43)
    || proves_insecure ns (servers_owner servers)
is_accepted_by z ns t name (BelowDname ds) = true

abbrev pub is_accepted : ZoneState → List NsecState → ℕ → List (List ℕ) → Bool
is_accepted z ns t name = is_accepted_by z ns t name (asked_region z t name)

-- the name for which the first NSEC is chosen: below a cut the delegation point
abbrev pub sought_by : List (List ℕ) → Region → List (List ℕ)
sought_by name Within = name
sought_by name (BelowCut servers) = servers_owner servers
sought_by name (BelowDname ds) = name

abbrev pub sought : ZoneState → ℕ → List (List ℕ) → List (List ℕ)
sought z t name = sought_by name (asked_region z t name)

-- an NSEC that is chosen: the last that is not after the wildcard which another shows of a name
abbrev pub HasWildcards : List NsecState → List NsecState → NsecState → List (List ℕ) → Type 0
HasWildcards ns chosen n name = (m : NsecState) × IsLast ns (shown_wildcard n name) m × Contains chosen m

-- Each absence is proved: by the last NSEC that is not after that name, and, if it doesn't exist, the last not after the wildcard
-- which that one shows. They may be among others, so that the NSECs of a chain of aliases are those of its names.
abbrev pub EachAbsenceIsProved : Type 0
EachAbsenceIsProved = (z : ZoneState) (ns chosen : List NsecState) (t : ℕ) (name : List (List ℕ)) (n : NsecState) → IsWhole z ns
    → ends_name name z.apex ≡ true → CanBeDenied z name t
    → IsLast ns (sought z t name) n → Contains chosen n
    → (exists z (sought z t name) ≡ false → HasWildcards ns chosen n (sought z t name)) → is_accepted z chosen t name ≡ true
