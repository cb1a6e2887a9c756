-- Which cause a list is refused for, and what follows if it is for none.
use Rattle.std.proofs.Common.{◌≡◌, ℕ, zero, suc, ◌+◌, Bool, true, false, List, [], ◌∷◌, ◌++◌, length, drop, cond, nat_eq, Option, Some, None, Ok, Err, refl, ap, sym, ◌∙◌}
use Rattle.std.specs.Prelude.{not, if◌then◌else◌, option_map}
use Rattle.std.specs.List.{AllByRecursion, filter, position, position_from}
use Rattle.std.proofs.lemmas.Iterator.Adapters.{position_from-zero}
use Rattle.dns_message.specs.declared.record.Record.{Record}
use Rattle.dns_route.specs.Routes.{ends_name}
use Rattle.dns_zone.specs.declared.error.ZoneError.{ZoneError}
use Rattle.dns_zone.specs.declared.error.ZoneError.TheVariants.{Outside, Class, Opt, Soa, SoaPlace, Cname, OutOfMemory as NoMemory}
use Rattle.dns_zone.specs.Defects.{list_error, refused}
use Rattle.dns_zone.specs.ZoneIndex.{IsInZone}
use Rattle.dns_zone.specs.Owned.{ZoneState, is_of}
use Rattle.dns_zone.specs.ZoneErrors.{Makes, first_cause, has_other_class, is_crowded, is_misplaced, is_outside, miscounted, zone_error}
use Rattle.dns_zone.proofs.PathLaws.{true_eq}

refused_for : (cause : Option ZoneError) (e : ZoneError) → Err e ≡ refused cause → cause ≡ Some e
refused_for None e h = absurd (cc)
refused_for (Some f) e h = cc

not_refused : (cause : Option ZoneError) → Ok tt ≡ refused cause → cause ≡ None
not_refused None h = refl
not_refused (Some f) h = absurd (cc)

cause_kept : (xs ys : List (Option ZoneError)) (e : ZoneError) → first_cause xs ≡ Some e → first_cause (xs ++ ys) ≡ Some e
cause_kept [] ys e h = absurd (cc)
cause_kept (None ∷ xs) ys e h = cause_kept xs ys e h
cause_kept (Some x ∷ xs) ys e h = h

cause_next : (xs ys : List (Option ZoneError)) → first_cause xs ≡ None → first_cause (xs ++ ys) ≡ first_cause ys
cause_next [] ys h = refl
cause_next (None ∷ xs) ys h = cause_next xs ys h
cause_next (Some x ∷ xs) ys h = absurd (cc)

earlier_none : (xs ys : List (Option ZoneError)) → first_cause (xs ++ ys) ≡ None → first_cause xs ≡ None
earlier_none [] ys h = refl
earlier_none (None ∷ xs) ys h = earlier_none xs ys h
earlier_none (Some x ∷ xs) ys h = absurd (cc)

cause_none : (o : Option ZoneError) (xs : List (Option ZoneError)) → first_cause (o ∷ xs) ≡ None → o ≡ None
cause_none None xs h = refl
cause_none (Some e) xs h = absurd (cc)

causes_none : (k : ℕ) (xs : List (Option ZoneError)) → first_cause xs ≡ None → first_cause (drop k xs) ≡ None
causes_none zero xs h = h
causes_none (suc k) [] h = h
causes_none (suc k) (None ∷ xs) h = causes_none k xs h
causes_none (suc k) (Some e ∷ xs) h = absurd (cc)

makes_refused : (cause : Option ZoneError) (z : ZoneState) (e : ZoneError) → cause ≡ Some e → Makes cause z (Err e)
makes_refused cause z (Outside i) h = h
makes_refused cause z (Class i) h = h
makes_refused cause z (Opt i) h = h
makes_refused cause z (Soa n) h = h
makes_refused cause z (SoaPlace i) h = h
makes_refused cause z (Cname i) h = h
makes_refused cause z NoMemory h = tt

within_step : (b : Bool) (i : ℕ) (more : Option ℕ) → cond (not b) (Some i) more ≡ None → (b ≡ true) × (more ≡ None)
within_step true i more h = (refl, h)
within_step false i more h = absurd (cc)

within_from : (apex : List (List ℕ)) (i : ℕ) (rs : List Record) → position_from (is_outside apex) i rs ≡ None → AllByRecursion (IsInZone apex) rs
within_from apex i [] h = tt
within_from apex i (r ∷ rs) h =
    let s = within_step (ends_name r.owner apex) i (position_from (is_outside apex) (i + 1) rs) h in
    (s.0, within_from apex (i + 1) rs s.1)

module _ (apex : List (List ℕ)) (rs : List Record) where
  -- the causes but the last, and the last
  abbrev alone : List (Option ZoneError)
  alone =
      option_map Outside (position (is_outside apex) rs)
      ∷ option_map Class (position has_other_class rs)
      ∷ option_map Opt (position (is_of 41) rs)
      ∷ miscounted (length (filter (is_of 6) rs))
      ∷ option_map SoaPlace (position (is_misplaced apex) rs)
      ∷ []

  abbrev crowded : List (Option ZoneError)
  crowded = option_map Cname (position (is_crowded rs) rs) ∷ []

  -- a list is refused for a cause other than its aliases
  pub refused_list : (z : ZoneState) (e : ZoneError) → Err e ≡ refused (list_error apex rs) → Makes (zone_error apex rs) z (Err e)
  refused_list z e h =
      makes_refused (zone_error apex rs) z e
      (cause_kept alone crowded e (refused_for (list_error apex rs) e h))

  module _ (h : Ok tt ≡ refused (list_error apex rs)) where
    -- then its aliases decide
    by_aliases : zone_error apex rs ≡ first_cause crowded
    by_aliases = cause_next alone crowded (not_refused (list_error apex rs) h)

    pub refused_alias : (i : ℕ) → Some i ≡ position (is_crowded rs) rs → zone_error apex rs ≡ Some (Cname i)
    refused_alias i e = by_aliases ∙ ap (λ (o : Option ℕ). first_cause (option_map Cname o ∷ [])) (sym e)

    pub accepted : None ≡ position (is_crowded rs) rs → zone_error apex rs ≡ None
    accepted e = by_aliases ∙ ap (λ (o : Option ℕ). first_cause (option_map Cname o ∷ [])) (sym e)

  module _ (h : zone_error apex rs ≡ None) where
    none : (k : ℕ) → first_cause (drop k alone) ≡ None
    none k = causes_none k alone (earlier_none alone crowded h)

    -- a zone has one SOA record
    one_counted : (n : ℕ) (b : Bool) → nat_eq n 1 ≡ b → (if b then None else Some (Soa n)) ≡ None → n ≡ 1
    one_counted n true e g = true_eq n 1 e
    one_counted n false e g = absurd (cc)

    pub one_soa : length (filter (is_of 6) rs) ≡ 1
    one_soa =
        let n = length (filter (is_of 6) rs) in
        one_counted n (nat_eq n 1) refl (cause_none (miscounted n) (drop 4 alone) (none 3))

    no_map : (o : Option ℕ) → option_map Outside o ≡ None → o ≡ None
    no_map None e = refl
    no_map (Some i) e = absurd (cc)

    -- and its records are within the apex
    pub all_within : AllByRecursion (IsInZone apex) rs
    all_within = within_from apex 0 rs (sym (position_from-zero (is_outside apex) rs) ∙ no_map (position (is_outside apex) rs) (cause_none (option_map Outside (position (is_outside apex) rs)) (drop 1 alone) (none 0)))
