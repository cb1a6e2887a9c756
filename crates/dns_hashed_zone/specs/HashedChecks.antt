-- How a chain of NSEC3s in the order of their hashes is checked, and where one breaks (RFC 5155, section 7.1).
use Rattle.std.specs.Prelude.{ℕ, ◌≡◌, ◌+◌, ◌<◌, Bool, true, false, ◌||◌, ◌&&◌, not, List, [], ◌∷◌, length, nat_lt, slice_index_or, if◌then◌else◌, Option, Some, None}
use Rattle.std.specs.List.{filter, list_all, list_any, position, slice_get}
use Rattle.std.specs.Str.{bytes_eq}
use Rattle.dns_base.specs.Records.{data_type}
use Rattle.dns_message.specs.declared.record.Record.{Record}
use Rattle.dns_route.specs.Routes.{ends_name}
use Rattle.dns_zone.specs.Owned.{ZoneState, is_owned}
use Rattle.dns_denial.specs.Chains.{has_type, is_deniable}
use Rattle.dns_zone_tree.specs.Regions.{Region, Within, BelowCut, BelowDname, asked_region}
use Rattle.dns_denial.specs.Nsec3.{Hashing, Nsec3State, closer, has, is_firm, is_matched, matches3}
use Rattle.dns_hashed_zone.specs.Searches.{near_place}
use Rattle.dns_hashed_zone.specs.declared.hashed_zone_error.HashedChainError.{HashedChainError}
use Rattle.dns_hashed_zone.specs.declared.hashed_zone_error.HashedChainError.TheVariants.{Unlisted, Unfounded, Unlinked, Unowned, OutOfMemory as NoMemory}

-- ---- names

-- a name, and those above it
abbrev pub names_above : List (List ℕ) → List (List (List ℕ))
names_above [] = [] ∷ []
names_above (l ∷ ls) = (l ∷ ls) ∷ names_above ls

-- those of them that are in the zone
abbrev pub zone_names : ZoneState → List (List ℕ) → List (List (List ℕ))
zone_names z name = filter (λ (s : List (List ℕ)). ends_name s z.apex) (names_above name)

-- ---- types

-- a type that is listed is there
abbrev pub is_there3 : ZoneState → List (List ℕ) → ℕ → Bool
is_there3 z name t = not (is_deniable t) || has_type z name t

-- the type of a record of the name is listed, if it is to be
abbrev pub lists_type : ZoneState → List (List ℕ) → Nsec3State → Record → Bool
lists_type z name n r = not (is_owned name r && (is_deniable (data_type r.rdata) && has_type z name (data_type r.rdata)))
    || has n (data_type r.rdata)

abbrev pub lists_types : ZoneState → List (List ℕ) → Nsec3State → Bool
lists_types z name n = list_all (is_there3 z name) n.types && list_all (lists_type z name n) z.records

-- ---- records

-- whether the NSEC3 that matches or covers a name has Opt-Out
abbrev pub opt_out_of : Option Nsec3State → Bool
opt_out_of None = false
opt_out_of (Some n) = n.opt_out

abbrev pub is_spared : Hashing → List Nsec3State → List (List ℕ) → Bool
is_spared h ns name = opt_out_of (slice_get ns (near_place h ns name))

-- a name has an NSEC3 that lists its types; or it may have none, and its next closer name is in a span with Opt-Out
abbrev pub is_held : ZoneState → Hashing → List Nsec3State → Bool → List (List ℕ) → Bool
is_held z h ns firm name = if is_matched h ns name then list_all (λ (n : Nsec3State). not (matches3 h name n) || lists_types z name n) ns
    else (not firm && is_spared h ns (closer h ns name))

-- the apex has one; and so it is with a name and those above it in the zone
abbrev pub are_held : ZoneState → Hashing → List Nsec3State → Bool → List (List ℕ) → Bool
are_held z h ns firm name = is_matched h ns z.apex && list_all (is_held z h ns firm) (zone_names z name)

-- whether a record's names aren't so, if it isn't below a delegation point; or it is below a DNAME record (RFC 6672, section 2.4)
abbrev pub is_unlisted_by : Region → Bool → Bool
is_unlisted_by Within held = not held
is_unlisted_by (BelowCut rs) held = false
is_unlisted_by (BelowDname rs) held = true

abbrev pub is_unlisted3 : ZoneState → Hashing → List Nsec3State → Record → Bool
is_unlisted3 z h ns r = is_unlisted_by (asked_region z 43 r.owner) (are_held z h ns (is_firm z r) r.owner)

-- ---- NSEC3s

-- whether an NSEC3 is a name's by which a record exists
abbrev pub is_within : Region → Bool
is_within Within = true
is_within (BelowCut rs) = false
is_within (BelowDname rs) = false

abbrev pub is_met : ZoneState → Hashing → Record → Nsec3State → Bool
is_met z h r n = is_within (asked_region z 43 r.owner) && list_any (λ (s : List (List ℕ)). matches3 h s n) (zone_names z r.owner)

abbrev pub is_unfounded3 : ZoneState → Hashing → Nsec3State → Bool
is_unfounded3 z h n = not (list_any (λ (r : Record). is_met z h r n) z.records)

-- ---- the order

-- the hash after a place; after the last one the first
abbrev pub hash_after : List Nsec3State → ℕ → Nsec3State → List ℕ
hash_after ns k d = if nat_lt (k + 1) (length ns) then (slice_index_or ns (k + 1) d).hash else (slice_index_or ns 0 d).hash

-- each points to the next, the last to the first
abbrev pub AreLinked3 : List Nsec3State → ℕ → Type 0
AreLinked3 ns high = (k : ℕ) (d : Nsec3State) → k < high → k < length ns → bytes_eq (slice_index_or ns k d).next (hash_after ns k d) ≡ true

-- the first that doesn't
pub record IsUnlinked3 (ns : List Nsec3State) (k : ℕ) : Type 0 where
  pub within : k < length ns
  pub first : AreLinked3 ns k
  pub apart : (d : Nsec3State) → bytes_eq (slice_index_or ns k d).next (hash_after ns k d) ≡ false

-- ---- where a chain isn't whole: records come first, then NSEC3s, then their order

pub record AreListed (z : ZoneState) (h : Hashing) (ns : List Nsec3State) : Type 0 where
  pub listed : position (is_unlisted3 z h ns) z.records ≡ None

pub record AreFounded (z : ZoneState) (h : Hashing) (ns : List Nsec3State) : Type 0 where
  pub listed : AreListed z h ns
  pub founded : position (is_unfounded3 z h) ns ≡ None

abbrev pub Breaks3 : ZoneState → Hashing → List Nsec3State → HashedChainError → Type 0
Breaks3 z h ns (Unlisted i) = position (is_unlisted3 z h ns) z.records ≡ Some i
Breaks3 z h ns (Unfounded i) = AreListed z h ns × (position (is_unfounded3 z h) ns ≡ Some i)
Breaks3 z h ns (Unlinked i) = AreFounded z h ns × IsUnlinked3 ns i
Breaks3 z h ns (Unowned i) = ⊥
Breaks3 z h ns NoMemory = Unit {0}
