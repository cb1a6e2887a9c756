-- What a validator asks of the NSEC3s of a reply, by the case of the reply (RFC 5155, section 8), and which are chosen (section 7.2).
use Rattle.std.specs.Prelude.{ℕ, ◌≡◌, ◌≤◌, Bool, true, false, ◌||◌, ◌&&◌, not, List, [], ◌∷◌, length, nat_eq, if◌then◌else◌}
use Rattle.std.specs.List.{Contains, list_any}
use Rattle.dns_name.specs.Labels.{spell}
use Rattle.dns_message.specs.declared.record.Record.{Record}
use Rattle.dns_route.specs.Routes.{ends_name}
use Rattle.dns_zone.specs.Owned.{ZoneState, asked_records}
use Rattle.dns_zone.specs.ZoneReply.{exists}
use Rattle.dns_zone_tree.specs.Regions.{Region, Within, BelowCut, BelowDname, asked_region}
use Rattle.dns_zone_tree.specs.Wildcards.{are_some, encloser, star, wildcard}
use Rattle.dns_denial.specs.Accepted.{is_given, servers_owner, sought}
use Rattle.dns_denial.specs.Denials.{CanBeDenied}
use Rattle.dns_denial.specs.declared.hashed_denial.Closest.{Closest}
use Rattle.dns_denial.specs.declared.hashed_denial.HashedDenial.{HashedDenial}
use Rattle.dns_denial.specs.declared.hashed_denial.HashedDenial.TheVariants.{Own, Missing}
use Rattle.dns_denial.specs.Nsec3.{AreApart, Hashing, IsApart, IsNear, IsWhole3, Nsec3State, closer, is_matched, proves_expansion3, proves_insecure3, proves_name_error3, proves_no_data3, proves_wildcard_no_data3, provable}

-- the name one label longer than another, which a name ends with; the labels of an RRSIG tell the closest encloser (section 8.8)
abbrev pub longer : List (List ℕ) → List (List ℕ) → List (List ℕ)
longer e [] = []
longer e (l ∷ ls) = if nat_eq (length ls) (length e) then l ∷ ls else longer e ls

abbrev pub is_accepted_within3 : ZoneState → Hashing → List Nsec3State → ℕ → List (List ℕ) → Bool
is_accepted_within3 z h ns t name =
    if is_given z t name then (exists z name || proves_expansion3 h ns (longer (encloser z name) name))
    else (if exists z name then proves_no_data3 h ns name t
    else (if exists z (wildcard z name) then proves_wildcard_no_data3 h ns name t
    else proves_name_error3 h ns name))

abbrev pub is_accepted_by3 : ZoneState → Hashing → List Nsec3State → ℕ → List (List ℕ) → Region → Bool
is_accepted_by3 z h ns t name Within = is_accepted_within3 z h ns t name
is_accepted_by3 z h ns t name (BelowCut servers) = are_some (asked_records z (servers_owner servers) 43)
    || proves_insecure3 h ns (servers_owner servers)
is_accepted_by3 z h ns t name (BelowDname ds) = true

abbrev pub is_accepted3 : ZoneState → Hashing → List Nsec3State → ℕ → List (List ℕ) → Bool
is_accepted3 z h ns t name = is_accepted_by3 z h ns t name (asked_region z t name)

-- the names whose NSEC3s are chosen: a name that has one; else its closest provable encloser, the next closer name and the wildcard
abbrev pub hashed_names : Hashing → List Nsec3State → List (List ℕ) → List (List (List ℕ))
hashed_names h ns name = if is_matched h ns name then name ∷ []
    else provable h ns name ∷ closer h ns name ∷ (star ∷ provable h ns name) ∷ []

-- NSEC3s of a chain, among them those of these names
pub record AreChosen (h : Hashing) (ns chosen : List Nsec3State) (name : List (List ℕ)) : Type 0 where
  pub of_chain : (n : Nsec3State) → Contains chosen n → Contains ns n
  pub each : (s : List (List ℕ)) → Contains (hashed_names h ns name) s → (n : Nsec3State) × Contains chosen n × IsNear h ns s n

-- What a chain leaves without a proof: a span with Opt-Out may leave out an empty non-terminal (section 7.1). So a wildcard at the
-- closest provable encloser can't be denied. At that name no type but DS can, and no wildcard there tells its closest encloser.
-- Hashes that collide are none of this: then a server must fail (section 7.2.9).
pub record IsProvable (z : ZoneState) (h : Hashing) (ns : List Nsec3State) (t : ℕ) (name : List (List ℕ)) : Type 0 where
  pub held : exists z name ≡ true → nat_eq t 43 ≡ false → is_matched h ns name ≡ true
  pub closest : exists z name ≡ false → exists z (wildcard z name) ≡ true → (provable h ns name ≡ encloser z name)
      × (is_matched h ns (wildcard z name) ≡ true)
  pub none : exists z name ≡ false → exists z (wildcard z name) ≡ false → exists z (star ∷ provable h ns name) ≡ false

pub record HasOwnHashes (z : ZoneState) (h : Hashing) (ns : List Nsec3State) (name : List (List ℕ)) : Type 0 where
  pub above : AreApart z h ns name
  pub wild : IsApart z h ns (star ∷ provable h ns name)

abbrev pub EachAbsenceIsProved3 : Type 0
EachAbsenceIsProved3 = (z : ZoneState) (h : Hashing) (ns chosen : List Nsec3State) (t : ℕ) (name : List (List ℕ)) → IsWhole3 z h ns
    → ends_name name z.apex ≡ true → CanBeDenied z name t
    → IsProvable z h ns t name → HasOwnHashes z h ns name → AreChosen h ns chosen (sought z t name) → is_accepted3 z h chosen t name ≡ true

-- ---- what the search gives

-- the NSEC3s of a denial
abbrev pub denied_by : HashedDenial → List Nsec3State
denied_by (Own n) = n.now ∷ []
denied_by (Missing a b w) = a.now ∷ b.now ∷ w.now ∷ []

-- no zone whose chain this is has the name at or below its apex
abbrev pub HasNoZone3 : Hashing → List Nsec3State → List (List ℕ) → Type 0
HasNoZone3 h ns name = (z : ZoneState) → IsWhole3 z h ns → ends_name name z.apex ≡ true → ⊥

-- the closest provable encloser of a name and its NSEC3, and that of the next closer name; the wildcard below it is a name
pub record AreClosest (h : Hashing) (ns : List Nsec3State) (name : List (List ℕ)) (encloser next : Nsec3State)
    (above : List (List ℕ)) : Type 0 where
  pub near : IsNear h ns (provable h ns name) encloser
  pub next_near : IsNear h ns (closer h ns name) next
  pub is : above ≡ provable h ns name
  pub room : length (spell above) ≤ 253

abbrev pub IsClosest : Hashing → List Nsec3State → List (List ℕ) → Closest → Type 0
IsClosest h ns name c = AreClosest h ns name c.encloser.now c.next.now c.above

-- a denial of the NSEC3s that are chosen for a name
abbrev pub Denies : Hashing → List Nsec3State → List (List ℕ) → HashedDenial → Type 0
Denies h ns name d = AreChosen h ns (denied_by d) name

-- which NSEC3 of a denial is which: the name's own; or, if it has none, those of the closest provable encloser, of the next closer name
-- and of the wildcard (RFC 5155, sections 7.2.1 to 7.2.7)
abbrev pub IsDenialOf : Hashing → List Nsec3State → List (List ℕ) → HashedDenial → Type 0
IsDenialOf h ns name (Own n) = (is_matched h ns name ≡ true) × IsNear h ns name n.now
IsDenialOf h ns name (Missing a b w) = (is_matched h ns name ≡ false) × IsNear h ns (provable h ns name) a.now
    × IsNear h ns (closer h ns name) b.now × IsNear h ns (star ∷ provable h ns name) w.now
