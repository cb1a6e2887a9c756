-- Which lists of records are zones (RFC 1034, sections 3.6.2 and 4.2; RFC 1035, section 5.2), and the first cause why another isn't.
use Rattle.std.specs.Prelude.{ℕ, ◌≡◌, Bool, ◌&&◌, not, List, [], ◌∷◌, length, nat_eq, nat_lt, if◌then◌else◌, Option, Some, None, option_map, Result, Ok, Err}
use Rattle.std.specs.List.{filter, position}
use Rattle.dns_name.specs.Canonical.{same_name}
use Rattle.dns_message.specs.declared.record.Record.{Record}
use Rattle.dns_route.specs.Routes.{ends_name}
use Rattle.dns_zone.specs.declared.error.ZoneError.{ZoneError}
use Rattle.dns_zone.specs.declared.error.ZoneError.TheVariants.{Outside, Class, Opt, Soa, SoaPlace, Cname, OutOfMemory as NoMemory}
use Rattle.dns_zone.specs.Owned.{ZoneState, is_of, is_owned}

-- the first cause among those that may be
abbrev pub first_cause : List (Option ZoneError) → Option ZoneError
first_cause [] = None
first_cause (None ∷ causes) = first_cause causes
first_cause (Some e ∷ causes) = Some e

abbrev pub is_outside : List (List ℕ) → Record → Bool
is_outside apex r = not (ends_name r.owner apex)

abbrev pub has_other_class : Record → Bool
has_other_class r = not (nat_eq r.class 1)

-- a number of SOA records other than one
abbrev pub miscounted : ℕ → Option ZoneError
miscounted n = if nat_eq n 1 then None else Some (Soa n)

-- an SOA record elsewhere than at the apex
abbrev pub is_misplaced : List (List ℕ) → Record → Bool
is_misplaced apex r = is_of 6 r && not (same_name r.owner apex)

-- a CNAME whose owner has another record
abbrev pub is_crowded : List Record → Record → Bool
is_crowded rs r = is_of 5 r && nat_lt 1 (length (filter (is_owned r.owner) rs))

-- why a list is no zone, if it isn't
abbrev pub zone_error : List (List ℕ) → List Record → Option ZoneError
zone_error apex rs = first_cause (
    option_map Outside (position (is_outside apex) rs)
    ∷ option_map Class (position has_other_class rs)
    ∷ option_map Opt (position (is_of 41) rs)
    ∷ miscounted (length (filter (is_of 6) rs))
    ∷ option_map SoaPlace (position (is_misplaced apex) rs)
    ∷ option_map Cname (position (is_crowded rs) rs)
    ∷ [])

-- a zone is made of a list, or the list is refused for a cause
abbrev pub Makes : Option ZoneError → ZoneState → Result ZoneState ZoneError → Type 0
Makes cause z (Ok made) = (cause ≡ None) × (made ≡ z)
Makes cause z (Err NoMemory) = Unit {0}
Makes cause z (Err (Outside i)) = cause ≡ Some (Outside i)
Makes cause z (Err (Class i)) = cause ≡ Some (Class i)
Makes cause z (Err (Opt i)) = cause ≡ Some (Opt i)
Makes cause z (Err (Soa n)) = cause ≡ Some (Soa n)
Makes cause z (Err (SoaPlace i)) = cause ≡ Some (SoaPlace i)
Makes cause z (Err (Cname i)) = cause ≡ Some (Cname i)
