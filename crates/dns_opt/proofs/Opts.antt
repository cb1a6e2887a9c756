-- The OPT record of a written message.
use Rattle.std.proofs.Common.{◌≡◌, ℕ, List, [], ◌∷◌, length, map, Bool, true, false, Option, Result, Ok, Err, nat_eq, if◌then◌else◌, refl, ap, ◌∙◌}
use Rattle.std.specs.Prelude.{option_map}
use Rattle.dns_name.specs.declared.error.ParseError.{ParseError}
use Rattle.dns_name.specs.Place.{Read}
use Rattle.dns_base.specs.Msg.{Msg, ResourceRecord, IsMessage}
use Rattle.dns_base.specs.Standing.{Standing, standing_at}
use Rattle.dns_base.specs.Wire.{wire}
use Rattle.dns_base.specs.Readers.{resources}
use Rattle.dns_base.specs.Sections.{Items, SameRecords, additional_of, all_of, authority_of, field, items_behind, items_from, message_of, reached, standing_additional}
use Rattle.dns_opt.specs.OptRecords.{OptState, first_opt, listed, opt_in, opt_of, opt_record_among, readable_opt, opt_state_of}
use Rattle.dns_opt.specs.Reopened.{opt_among}

found_by : (r : ResourceRecord) (opt : Bool) (more : Option OptState) (rest : Option ResourceRecord) → more ≡ option_map opt_state_of rest →
    (if opt then readable_opt r else more) ≡ option_map opt_state_of (if opt then listed r else rest)
found_by r true more rest h = refl
found_by r false more rest h = h

-- the first OPT record of what an iterator gives is that of the records among it
pub opt_given : (items : List (Result Standing ParseError)) → first_opt items ≡ opt_among (resources items)
opt_given [] = refl
opt_given (Ok s ∷ more) = found_by s.resource (nat_eq s.resource.rtype 41) (first_opt more) (opt_record_among (resources more)) (opt_given more)
opt_given (Err e ∷ more) = refl

abbrev resource_of : Standing → ResourceRecord
resource_of s = s.resource

all_given : (xs : List Standing) → resources (map Ok xs) ≡ map resource_of xs
all_given [] = refl
all_given (s ∷ xs) = ap (λ t. s.resource ∷ t) (all_given xs)

by_end : (i : Items Standing) (end : ℕ) → i.1 ≡ Ok end → first_opt (all_of i) ≡ opt_among (map resource_of i.0)
by_end (xs, Ok e) end h = opt_given (map Ok xs) ∙ ap opt_among (all_given xs)
by_end (xs, Err e) end h = absurd (cc)

-- a section that has an end is reached
by_reach : (one : ℕ → Read Standing) (n : ℕ) (before : Result ℕ ParseError) (end : ℕ) → (items_behind one n before).1 ≡ Ok end → opt_in (reached before (items_behind one n before)) ≡ opt_among (map resource_of (items_behind one n before).0)
by_reach one n (Ok at) end h = by_end (items_from one n at) end h
by_reach one n (Err e) end h = absurd (cc)

module _ (back : (m : Msg) → IsMessage m → message_of (wire m) ≡ m) (whole : (m : Msg) → IsMessage m → (additional_of (wire m)).1 ≡ Ok (length (wire m))) (same : (o : List ℕ) → SameRecords (standing_additional o) (additional_of o)) where
  records_back : (m : Msg) → IsMessage m → (additional_of (wire m)).0 ≡ m.additional
  unfolding message_of
  records_back m h = ap (λ (x : Msg). x.additional) (back m h)

  pub opt_back : (m : Msg) → IsMessage m → opt_of (wire m) ≡ opt_among m.additional
  opt_back m h =
      let o = wire m in
      let s = same o in
      by_reach (standing_at o) (field 10 o) (authority_of o).1 _ (s.end ∙ whole m h) ∙ ap opt_among (s.items ∙ records_back m h)
