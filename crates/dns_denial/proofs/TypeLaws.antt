-- Types that a name has no records of.
use Rattle.std.proofs.Common.{◌≡◌, ℕ, Bool, true, false, List, nat_eq, sym, subst, ◌∙◌, arith, inl, inr}
use Rattle.std.specs.Prelude.{◌&&◌, ◌||◌, ◌⊎◌, not}
use Rattle.std.specs.List.{list_any}
use Rattle.std.proofs.lemmas.Bool.{true≢false, and_from, and_parts, cases_Bool, false_from_ne_true, not_from_false, or_from, or_left, or_right}
use Rattle.std.proofs.lemmas.Bool.Decides.{nat_tests}
use Rattle.dns_name.specs.Canonical.{same_name}
use Rattle.dns_zone.specs.Owned.{ZoneState, is_asked, is_of, is_owned}
use Rattle.dns_zone.specs.ZoneErrors.{is_misplaced}
use Rattle.dns_zone.specs.ZoneReply.{follows}
use Rattle.dns_denial.specs.Chains.{is_record_at}
use Rattle.dns_denial.specs.Denials.{HasNone}
use Rattle.dns_denial.proofs.NameLaws.{same_back, same_trans}
use Rattle.dns_denial.proofs.ListLaws.{found, present}
use Rattle.dns_denial.proofs.StartLaws.{HasStart}

module _ (z : ZoneState) where
  -- a name without records of a type has none of exactly that type
  pub not_at : (name : List (List ℕ)) (t : ℕ) → list_any (is_asked name t) z.records ≡ false → list_any (is_record_at name t) z.records ≡ false
  not_at name t h = false_from_ne_true (list_any (is_record_at name t) z.records) (λ k.
      let f = found (is_record_at name t) z.records k in
      let b = and_parts (is_owned name f.one) (is_of t f.one) f.passes in
      true≢false (sym (present (is_asked name t) z.records f.one f.there (and_from (is_owned name f.one) (nat_eq t 255 || is_of t f.one) b.0 (or_right (nat_eq t 255) (is_of t f.one) b.1))) ∙ h))

  -- one that owns a record has some of type 255
  pub not_any : (name : List (List ℕ)) (t : ℕ) → list_any (is_owned name) z.records ≡ true → list_any (is_asked name t) z.records ≡ false → nat_eq t 255 ≡ false
  not_any name t o h = false_from_ne_true (nat_eq t 255) (λ k.
      let f = found (is_owned name) z.records o in
      true≢false (sym (present (is_asked name t) z.records f.one f.there (and_from (is_owned name f.one) (nat_eq t 255 || is_of t f.one) f.passes (or_left (nat_eq t 255) (is_of t f.one) k))) ∙ h))

  -- and no CNAME, if one would be followed
  pub no_alias : (name : List (List ℕ)) (t : ℕ) → HasNone z name t → nat_eq t 255 ≡ false → list_any (is_record_at name 5) z.records ≡ false
  no_alias name t h k = by_type (cases_Bool (nat_eq t 5))
    where
      by_type : (nat_eq t 5 ≡ true) ⊎ (nat_eq t 5 ≡ false) → list_any (is_record_at name 5) z.records ≡ false
      by_type (inl e) = let q : t ≡ 5 = grind (arith, nat_tests) in subst (λ (u : ℕ). list_any (is_record_at name u) z.records ≡ false) q (not_at name t h.none)
      by_type (inr e) =
          let f : follows t ≡ true = not_from_false (nat_eq t 5 || nat_eq t 255) (or_from (nat_eq t 5) (nat_eq t 255) e k) in
          not_at name 5 (second_false (follows t) (list_any (is_asked name 5) z.records) f h.alias)
        where
          second_false : (a b : Bool) → a ≡ true → (a && b) ≡ false → b ≡ false
          second_false true b p q = q
          second_false false b p q = absurd (true≢false (sym p))

  -- no name but the apex has an SOA record
  pub no_soa : HasStart z → (name : List (List ℕ)) → same_name name z.apex ≡ false → list_any (is_record_at name 6) z.records ≡ false
  no_soa start name o = false_from_ne_true (list_any (is_record_at name 6) z.records) (λ h.
      let f = found (is_record_at name 6) z.records h in
      let b = and_parts (is_owned name f.one) (is_of 6 f.one) f.passes in
      let k : same_name f.one.owner z.apex ≡ false = false_from_ne_true (same_name f.one.owner z.apex) (λ e. true≢false (sym (same_trans name f.one.owner z.apex (same_back f.one.owner name b.0) e) ∙ o)) in
      true≢false (sym (present (is_misplaced z.apex) z.records f.one f.there (and_from (is_of 6 f.one) (not (same_name f.one.owner z.apex)) b.1 (not_from_false (same_name f.one.owner z.apex) k))) ∙ start.alone))
