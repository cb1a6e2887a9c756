-- The defects of a list of records, and what the checks of a list answer.
use Rattle.std.specs.Prelude.{ℕ, ⊤, Bool, List, [], ◌∷◌, length, Option, Some, None, option_map, Result, Ok, Err}
use Rattle.std.specs.List.{filter, position}
use Rattle.dns_message.specs.declared.record.Record.{Record}
use Rattle.dns_zone.specs.declared.check.ZoneDefect.{ZoneDefect}
use Rattle.dns_zone.specs.declared.check.ZoneDefect.TheVariants.{OutsideApex, OtherClass, IsOpt, Misplaced}
use Rattle.dns_zone.specs.declared.error.ZoneError.{ZoneError}
use Rattle.dns_zone.specs.declared.error.ZoneError.TheVariants.{Outside, Class, Opt, SoaPlace}
use Rattle.dns_zone.specs.Owned.{is_of}
use Rattle.dns_zone.specs.ZoneErrors.{first_cause, has_other_class, is_misplaced, is_outside, miscounted}

abbrev pub has_defect : ZoneDefect → List (List ℕ) → Record → Bool
has_defect OutsideApex apex r = is_outside apex r
has_defect OtherClass apex r = has_other_class r
has_defect IsOpt apex r = is_of 41 r
has_defect Misplaced apex r = is_misplaced apex r

-- the causes that are looked for last, aliases aside
abbrev pub soa_error : List (List ℕ) → List Record → Option ZoneError
soa_error apex rs = first_cause (
    miscounted (length (filter (is_of 6) rs))
    ∷ option_map SoaPlace (position (is_misplaced apex) rs)
    ∷ [])

-- why a list is no zone, if it isn't, aliases aside
abbrev pub list_error : List (List ℕ) → List Record → Option ZoneError
list_error apex rs = first_cause (
    option_map Outside (position (is_outside apex) rs)
    ∷ option_map Class (position has_other_class rs)
    ∷ option_map Opt (position (is_of 41) rs)
    ∷ miscounted (length (filter (is_of 6) rs))
    ∷ option_map SoaPlace (position (is_misplaced apex) rs)
    ∷ [])

abbrev pub refused : Option ZoneError → Result ⊤ ZoneError
refused None = Ok tt
refused (Some e) = Err e
