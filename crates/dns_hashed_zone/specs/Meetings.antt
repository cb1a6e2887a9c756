-- What a check knows of a name, and of the NSEC3s of a chain, as it goes from name to name.
use Rattle.std.specs.Prelude.{ℕ, ◌≡◌, Bool, true, false, ◌&&◌, ◌||◌, not, List, [], ◌∷◌, nat_eq, if◌then◌else◌}
use Rattle.dns_name.specs.Canonical.{same_name}
use Rattle.dns_message.specs.declared.record.Record.{Record}
use Rattle.dns_zone.specs.Owned.{ZoneState}
use Rattle.dns_zone.specs.ZoneReply.{exists}
use Rattle.dns_zone_tree.specs.Regions.{asked_region}
use Rattle.dns_zone_tree.specs.declared.kinds.Kinds.{Kinds}
use Rattle.dns_denial.specs.Chains.{is_below_cut, is_deniable}
use Rattle.dns_denial.specs.Checks.{is_placed}
use Rattle.dns_denial.specs.Denials.{is_under_dname}
use Rattle.dns_denial.specs.Nsec3.{Hashing, Nsec3State, closer, has, is_matched, matches3}
use Rattle.dns_hashed_zone.specs.HashedChecks.{is_spared, is_within, zone_names}

-- ---- a name

-- whether a name in the zone with these places is a delegation point, and whether they say that it has a type
abbrev pub is_point : ZoneState → List (List ℕ) → Kinds → Bool
is_point z name m = is_placed 2 m && not (same_name name z.apex)

abbrev pub is_typed : Kinds → Bool → ℕ → Bool
is_typed m cut t = is_placed t m && (not cut || (nat_eq t 2 || nat_eq t 43))

-- whether a type that a name has is listed, if it is to be
abbrev pub is_type_listed : Bool → Nsec3State → ℕ → Bool
is_type_listed cut n t = not (is_deniable t && (not cut || (nat_eq t 2 || nat_eq t 43))) || has n t

-- a name that exists, and isn't below a delegation point or a DNAME record
pub record IsStanding (z : ZoneState) (name : List (List ℕ)) : Type 0 where
  pub there : exists z name ≡ true
  pub uncut : is_below_cut z name ≡ false
  pub plain : is_under_dname z name ≡ false

-- what is known of the name above: whether it has an NSEC3; and if it has none, that it may be without
pub record IsAbove (h : Hashing) (ns : List Nsec3State) (name : List (List ℕ)) (matched : Bool) : Type 0 where
  pub is : matched ≡ is_matched h ns name
  pub spared : matched ≡ false → is_spared h ns (closer h ns name) ≡ true

-- ---- NSEC3s that were met

-- those of a name too
abbrev pub marked : Hashing → List (List ℕ) → List Nsec3State → List Bool → List Bool
marked h name [] met = met
marked h name (n ∷ ns) [] = []
marked h name (n ∷ ns) (b ∷ bs) = (b || matches3 h name n) ∷ marked h name ns bs

-- those of some names
abbrev pub all_marked : Hashing → List Nsec3State → List (List (List ℕ)) → List Bool → List Bool
all_marked h ns [] met = met
all_marked h ns (name ∷ names) met = marked h name ns (all_marked h ns names met)

-- those of a record's names, if it is below no delegation point
abbrev pub record_marked : ZoneState → Hashing → List Nsec3State → Record → List Bool → List Bool
record_marked z h ns r met = if is_within (asked_region z 43 r.owner) then all_marked h ns (zone_names z r.owner) met else met
