-- The items of a list by its first option.
use Rattle.std.proofs.Common.{◌≡◌, ℕ, List, [], ◌∷◌, Option, Some, None, true, refl, ap, sym, ◌∙◌}
use Rattle.std.specs.Prelude.{option_map, is_some, unwrap_or}
use Rattle.std.specs.Prelude.{Result, Ok, Err}
use Rattle.dns_name.specs.declared.error.ParseError.{ParseError}
use Rattle.dns_name.specs.Place.{Place}
use Rattle.dns_name.specs.OptData.{Taken, ParsesData, ParsesOption, mapped_data, kind}
use Rattle.dns_message.specs.Options.{first_option, options, IsOptionList}
use Rattle.dns_message.proofs.OptionLaws.{options_some, options_empty, list_step, none_empty}
use Rattle.dns_option_list.specs.Items.{with_item, items, items_of}

items_map : {X : Type 0} (t : ℕ → List ℕ → Option (Taken X)) (c : ℕ) (d : List ℕ) (x : Option (List (ℕ × List ℕ))) → is_some x ≡ true → items t (unwrap_or (option_map (λ ps. (c, d) ∷ ps) x) []) ≡ with_item (kind t c d) (items t (unwrap_or x []))
items_map t c d None h = cc
items_map t c d (Some ps) h = refl

-- the first option's value in front of those after it
pub items_some : {X : Type 0} (t : ℕ → List ℕ → Option (Taken X)) (o : List ℕ) (c : ℕ) (d r : List ℕ) → IsOptionList o → first_option o ≡ Some (c, d, r) → items_of t o ≡ with_item (kind t c d) (items_of t r)
items_some t o c d r h e = ap (λ x. items t (unwrap_or x [])) (options_some o c d r e) ∙ items_map t c d (options r) (sym (list_step o c d r e) ∙ h)

pub items_none : {X : Type 0} (t : ℕ → List ℕ → Option (Taken X)) (o : List ℕ) → IsOptionList o → first_option o ≡ None → items_of t o ≡ []
items_none t o h e = ap (items_of t) (none_empty o h e) ∙ ap (λ x. items t (unwrap_or x [])) options_empty

-- a refused reading is refused as another value's too
pub refused_mapped : {X Y : Type 0} (f : X → Y) (r : Taken X) (old new : Place) (result : Result X ParseError) (e : ParseError) (given : Result (Option Y) ParseError) → ParsesData r old new result → result ≡ Err e → given ≡ Err e → ParsesOption (Some (mapped_data f r)) old new given
refused_mapped {X} f (Ok p) old new result e given h is so = let no : ◌≡◌ {A = Result X ParseError} (Ok p.0) (Err e) = sym h.1 ∙ is in absurd (cc)
refused_mapped {X} f (Err d) old new result e given h is so =
    let both : ◌≡◌ {A = Result X ParseError} (Err e) (Err d) = sym is ∙ h.0 in
    let same : e ≡ d = cc in
    (so ∙ ap (λ x. Err x) same, h.1)
