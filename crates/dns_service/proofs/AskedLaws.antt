-- The first OPT item of a request is its OPT record.
use Rattle.std.proofs.Common.{◌≡◌, ℕ, List, [], ◌∷◌, Bool, true, false, nat_eq, if◌then◌else◌, Option, Some, None, Result, Ok, Err, refl, ap, sym, ◌∙◌}
use Rattle.std.specs.Prelude.{option_map}
use Rattle.dns_name.specs.declared.error.ParseError.{ParseError}
use Rattle.dns_base.specs.Sections.{authority_of, field, items_behind, reached, standing_additional}
use Rattle.dns_base.specs.Standing.{Standing, standing_at}
use Rattle.dns_name.specs.Place.{Read}
use Rattle.dns_replies.specs.OptRecords.{OptState, first_opt, opt_in, opt_of, readable_opt}
use Rattle.dns_service.specs.OptItems.{items_among, items_reached, opt_items, first_item}
use Rattle.dns_service.specs.Asked.{asked_of, asked_opt, asked_record, first_asked}

first_by : (opt : Bool) (x : Option OptState) (more : Option OptState) (items : List (Option OptState)) → more ≡ first_item items →
    (if opt then x else more) ≡ first_item (if opt then x ∷ items else items)
first_by true x more items h = refl
first_by false x more items h = h

first_among : (records : List (Result Standing ParseError)) → first_opt records ≡ first_item (items_among records)
first_among [] = refl
first_among (Err e ∷ more) = refl
first_among (Ok s ∷ more) = first_by (nat_eq s.resource.rtype 41) (readable_opt s.resource) (first_opt more) (items_among more) (first_among more)

first_reached : (r : Result (List (Result Standing ParseError)) ParseError) → opt_in r ≡ first_item (items_reached r)
first_reached (Ok more) = first_among more
first_reached (Err e) = refl

pub begin_with_opt : (o : List ℕ) → opt_of o ≡ first_item (opt_items o)
begin_with_opt o = first_reached (reached (authority_of o).1 (standing_additional o))

first_kept : (items : List (Option OptState)) → first_asked (asked_opt items) ≡ option_map asked_record (first_item items)
first_kept [] = refl
first_kept (None ∷ more) = refl
first_kept (Some s ∷ []) = refl
first_kept (Some s ∷ x ∷ more) = refl

pub keeps_opt : (o : List ℕ) → first_asked (asked_of o).opt ≡ option_map asked_record (opt_of o)
keeps_opt o = first_kept (opt_items o) ∙ sym (ap (option_map asked_record) (begin_with_opt o))

none_behind : (one : ℕ → Read Standing) (before : Result ℕ ParseError) → items_reached (reached before (items_behind one 0 before)) ≡ []
none_behind one (Ok at) = refl
none_behind one (Err e) = refl

-- if the header states no additional record there is no item
pub none_stated : (o : List ℕ) → field 10 o ≡ 0 → opt_items o ≡ []
none_stated o h = ap (λ (n : ℕ). items_reached (reached (authority_of o).1 (items_behind (standing_at o) n (authority_of o).1))) h ∙ none_behind (standing_at o) (authority_of o).1
