-- Which lists of records an authority serves as a zone, and the first cause why it doesn't serve another.
use Rattle.std.specs.Prelude.{ℕ, ⊤, ◌≡◌, Bool, false, ◌&&◌, ◌||◌, not, List, [], ◌∷◌, length, nat_eq, nat_lt, if◌then◌else◌, Option, Some, None, option_map, Result, Ok, Err}
use Rattle.std.specs.List.{filter, position, sum_by}
use Rattle.std.specs.Str.{bytes_eq}
use Rattle.dns_message.specs.declared.record.Record.{Record}
use Rattle.dns_order.specs.Keys.{canonical_key}
use Rattle.dns_zone.specs.Owned.{ZoneState, is_of, is_owned}
use Rattle.dns_zone.specs.ZoneErrors.{has_other_class, is_misplaced, is_outside}
use Rattle.dns_zone_tree.specs.Long.{is_long}
use Rattle.dns_zone_tree.specs.Wildcards.{star}
use Rattle.dns_zone_tree.specs.declared.check.RecordDefect.{RecordDefect}
use Rattle.dns_zone_tree.specs.declared.check.RecordDefect.TheVariants.{OutsideApex, OtherClass, IsOpt, Misplaced, WildServers, TooLong}
use Rattle.dns_zone_tree.specs.declared.error.TreeError.{TreeError}
use Rattle.dns_zone_tree.specs.declared.error.TreeError.TheVariants.{Outside, Class, Opt, Soa, SoaPlace, WildNs, Long, Large, Cname, OutOfMemory as NoMemory}

abbrev pub first_cause : List (Option TreeError) → Option TreeError
first_cause [] = None
first_cause (None ∷ causes) = first_cause causes
first_cause (Some e ∷ causes) = Some e

abbrev pub miscounted : ℕ → Option TreeError
miscounted n = if nat_eq n 1 then None else Some (Soa n)

-- whether the first label of a name is `*`
abbrev pub is_wild : List (List ℕ) → Bool
is_wild [] = false
is_wild (l ∷ ls) = bytes_eq l star

-- an NS record at a wildcard, of which nothing is defined (RFC 4592, section 4.2)
abbrev pub has_wild_servers : Record → Bool
has_wild_servers r = is_of 2 r && is_wild r.owner

-- what stands beside a CNAME: itself, and RRSIG and NSEC (RFC 4035, section 2.5)
abbrev pub is_alone : Record → Bool
is_alone r = not (is_of 46 r || is_of 47 r)

abbrev pub is_beside : List (List ℕ) → Record → Bool
is_beside name r = is_owned name r && is_alone r

-- a CNAME whose owner has another record, except for RRSIG and NSEC
abbrev pub is_crowded : List Record → Record → Bool
is_crowded rs r = is_of 5 r && nat_lt 1 (length (filter (is_beside r.owner) rs))

abbrev pub has_defect : RecordDefect → List (List ℕ) → Record → Bool
has_defect OutsideApex apex r = is_outside apex r
has_defect OtherClass apex r = has_other_class r
has_defect IsOpt apex r = is_of 41 r
has_defect Misplaced apex r = is_misplaced apex r
has_defect WildServers apex r = has_wild_servers r
has_defect TooLong apex r = is_long r

-- the first record for which a list is no list of a zone
abbrev pub place_error : List (List ℕ) → List Record → Option TreeError
place_error apex rs = first_cause (
    option_map Outside (position (is_outside apex) rs)
    ∷ option_map Class (position has_other_class rs)
    ∷ option_map Opt (position (is_of 41) rs)
    ∷ [])

-- the number of SOA records or the place of the one, NS records at a wildcard, long records
abbrev pub soa_error : List (List ℕ) → List Record → Option TreeError
soa_error apex rs = first_cause (
    miscounted (length (filter (is_of 6) rs))
    ∷ option_map SoaPlace (position (is_misplaced apex) rs)
    ∷ option_map WildNs (position has_wild_servers rs)
    ∷ option_map Long (position is_long rs)
    ∷ [])

-- the octets of the keys of all owners, by which names are found
abbrev pub keys_size : List Record → ℕ
keys_size rs = sum_by (λ (r : Record). length (canonical_key r.owner)) rs

-- the highest number of 32 bits
abbrev pub size_limit : ℕ
size_limit = 4294967295

-- more records, or more octets of keys, than a number of 32 bits counts
abbrev pub is_large : List Record → Bool
is_large rs = nat_lt size_limit (length rs) || nat_lt size_limit (keys_size rs)

abbrev pub size_error : List Record → Option TreeError
size_error rs = if is_large rs then Some Large else None

-- why a list isn't served, if it isn't
abbrev pub tree_error : List (List ℕ) → List Record → Option TreeError
tree_error apex rs = first_cause (
    place_error apex rs
    ∷ soa_error apex rs
    ∷ size_error rs
    ∷ option_map Cname (position (is_crowded rs) rs)
    ∷ [])

abbrev pub refused : Option TreeError → Result ⊤ TreeError
refused None = Ok tt
refused (Some e) = Err e

-- a zone is made of a list, or the list is refused for a cause
abbrev pub Makes : Option TreeError → ZoneState → Result ZoneState TreeError → Type 0
Makes cause z (Ok made) = (cause ≡ None) × (made ≡ z)
Makes cause z (Err NoMemory) = Unit {0}
Makes cause z (Err (Outside i)) = cause ≡ Some (Outside i)
Makes cause z (Err (Class i)) = cause ≡ Some (Class i)
Makes cause z (Err (Opt i)) = cause ≡ Some (Opt i)
Makes cause z (Err (Soa n)) = cause ≡ Some (Soa n)
Makes cause z (Err (SoaPlace i)) = cause ≡ Some (SoaPlace i)
Makes cause z (Err (WildNs i)) = cause ≡ Some (WildNs i)
Makes cause z (Err (Long i)) = cause ≡ Some (Long i)
Makes cause z (Err Large) = cause ≡ Some Large
Makes cause z (Err (Cname i)) = cause ≡ Some (Cname i)
