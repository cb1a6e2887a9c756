-- How a chain in canonical order is checked, and where one breaks.
use Rattle.std.specs.Prelude.{ℕ, ◌≡◌, ◌+◌, ◌<◌, ◌==◌, Bool, true, false, ◌||◌, ◌&&◌, not, List, length, nat_eq, nat_lt, slice_index_or, if◌then◌else◌, Some, None}
use Rattle.std.specs.List.{list_all, list_any, position}
use Rattle.dns_name.specs.Canonical.{same_name}
use Rattle.dns_base.specs.Records.{data_type}
use Rattle.dns_message.specs.declared.record.Record.{Record}
use Rattle.dns_zone.specs.Owned.{ZoneState, is_asked}
use Rattle.dns_zone.specs.Places.{places}
use Rattle.dns_zone_tree.specs.Kinds.{kind_places}
use Rattle.dns_zone_tree.specs.declared.kinds.Kinds.{Kinds}
use Rattle.dns_denial.specs.Nsecs.{AreSorted, NsecState, lists}
use Rattle.dns_denial.specs.Validation.{matches}
use Rattle.dns_denial.specs.Chains.{IsWhole, has_type, is_below_cut, is_deniable, must_have}
use Rattle.dns_denial.specs.declared.standing.Standing.{Standing}
use Rattle.dns_denial.specs.declared.standing.Standing.TheVariants.{Held, BelowCut, Unknown}
use Rattle.dns_denial.specs.declared.chain_error.ChainError.{ChainError}
use Rattle.dns_denial.specs.declared.chain_error.ChainError.TheVariants.{Unlisted, Unfounded, Unlinked, OutOfMemory as NoMemory}

-- ---- what a walk says of a name

-- the places of the records of a name that isn't below a cut
pub record IsHeld (z : ZoneState) (name : List (List ℕ)) (m : Kinds) : Type 0 where
  pub uncut : is_below_cut z name ≡ false
  pub kept : (t : ℕ) → kind_places t m ≡ places (is_asked name t) z.records

-- whether there is a place of a type
abbrev pub is_placed : ℕ → Kinds → Bool
is_placed t m = not (length (kind_places t m) == 0)

-- whether places say that the zone has a type at a name, where NS records elsewhere than at the apex make it a delegation point
abbrev pub is_kept : ZoneState → List (List ℕ) → ℕ → Kinds → Bool
is_kept z name t m = is_placed t m && (not (is_placed 2 m && not (same_name name z.apex)) || (nat_eq t 2 || nat_eq t 43))

abbrev pub StandsAt : ZoneState → List (List ℕ) → Standing → Type 0
StandsAt z name (Held m) = IsHeld z name m.now
StandsAt z name BelowCut = is_below_cut z name ≡ true
StandsAt z name Unknown = Unit {0}

-- ---- records

-- whether the type of a record is to be listed at its owner
abbrev pub is_to_list : ZoneState → Record → Bool
is_to_list z r = is_deniable (data_type r.rdata) && has_type z r.owner (data_type r.rdata)

-- whether an NSEC is that of a record's owner, and lists the record's type if it is to be listed
abbrev pub lists_record : ZoneState → Record → NsecState → Bool
lists_record z r n = matches r.owner n && (not (is_to_list z r) || lists n (data_type r.rdata))

-- whether a record is of a name that must have an NSEC, and there is none that lists it
abbrev pub is_unlisted : ZoneState → List NsecState → Record → Bool
is_unlisted z ns r = must_have z r.owner && not (list_any (lists_record z r) ns)

-- ---- NSECs

-- whether a type that is listed is there
abbrev pub is_there : ZoneState → NsecState → ℕ → Bool
is_there z n t = not (is_deniable t) || has_type z n.owner t

-- whether an NSEC is of a name that must have none, or lists a type that the zone doesn't have there
abbrev pub is_unfounded : ZoneState → NsecState → Bool
is_unfounded z n = not (must_have z n.owner && list_all (is_there z n) n.types)

-- ---- the order

-- the owner after a place; after the last one the apex
abbrev pub owner_behind : List (List ℕ) → List NsecState → ℕ → NsecState → List (List ℕ)
owner_behind apex ns k d = if nat_lt (k + 1) (length ns) then (slice_index_or ns (k + 1) d).owner else apex

-- each points to the next, the last to the apex
abbrev pub AreLinked : List (List ℕ) → List NsecState → ℕ → Type 0
AreLinked apex ns high = (k : ℕ) (d : NsecState) → k < high → k < length ns
    → same_name (slice_index_or ns k d).next (owner_behind apex ns k d) ≡ true

-- NSEC k is the first that doesn't point to the next name
pub record IsUnlinked (apex : List (List ℕ)) (ns : List NsecState) (k : ℕ) : Type 0 where
  pub within : k < length ns
  pub first : AreLinked apex ns k
  pub apart : (d : NsecState) → same_name (slice_index_or ns k d).next (owner_behind apex ns k d) ≡ false

-- ---- where a chain isn't whole: records come first, then NSECs, then their order

abbrev pub Breaks : ZoneState → List NsecState → ChainError → Type 0
Breaks z ns (Unlisted i) = position (is_unlisted z ns) z.records ≡ Some i
Breaks z ns (Unfounded i) = (position (is_unlisted z ns) z.records ≡ None) × (position (is_unfounded z) ns ≡ Some i)
Breaks z ns (Unlinked i) = (position (is_unlisted z ns) z.records ≡ None) × (position (is_unfounded z) ns ≡ None) × IsUnlinked z.apex ns i
Breaks z ns NoMemory = Unit {0}

-- a chain that is whole breaks nowhere
abbrev pub WholeChainsBreakNowhere : Type 0
WholeChainsBreakNowhere = (z : ZoneState) (ns : List NsecState) (e : ChainError) → AreSorted ns → IsWhole z ns → Breaks z ns e
    → e ≡ NoMemory
