-- What it says of a list of records that it is a zone.
use Rattle.std.proofs.Common.{◌≡◌, ℕ, ◌+◌, ◌≤◌, ◌<◌, Bool, true, false, List, [], ◌∷◌, length, map, cond, nat_eq, refl, ap, sym, ◌∙◌, arith, inl, inr}
use Rattle.std.specs.Prelude.{◌&&◌, ◌||◌, ◌⊎◌, not, if◌then◌else◌, Option, Some, None, option_map}
use Rattle.std.specs.List.{Contains, filter, list_any, position}
use Rattle.std.specs.Char.{to_ascii_lowercase}
use Rattle.std.specs.Str.{bytes_eq}
use Rattle.std.proofs.lemmas.Str.Ascii.{lowercase_is}
use Rattle.std.proofs.lemmas.Bool.{true≢false, and_from, and_parts, cases_lt, false_from_ne_true, not_from_false, true_from_ne_false}
use Rattle.std.proofs.lemmas.Bool.Decides.{nat_tests}
use Rattle.dns_name.specs.Canonical.{same_name, same_name_Decides}
use Rattle.dns_name.specs.Labels.{folded}
use Rattle.dns_message.specs.declared.record.Record.{Record}
use Rattle.dns_route.specs.Routes.{ends_name}
use Rattle.dns_zone_tree.specs.declared.error.TreeError.{TreeError}
use Rattle.dns_zone_tree.specs.declared.error.TreeError.TheVariants.{Outside, Class, Opt, Soa, SoaPlace, WildNs, Long, Cname}
use Rattle.dns_zone.specs.Cuts.{delegates, is_cut_off}
use Rattle.dns_zone.specs.Owned.{ZoneState, is_of, is_owned}
use Rattle.dns_zone.specs.ZoneErrors.{has_other_class, is_misplaced, is_outside}
use Rattle.dns_zone_tree.specs.Long.{is_long}
use Rattle.dns_zone_tree.specs.TreeErrors.{first_cause, has_wild_servers, is_crowded, is_wild, miscounted, place_error, size_error, soa_error, tree_error}
use Rattle.dns_zone_tree.specs.Wildcards.{star}
use Rattle.dns_denial.specs.Chains.{is_below_cut, is_record_at, must_have}
use Rattle.dns_denial.proofs.ChainLaws.{cut_by, cut_of}
use Rattle.dns_denial.proofs.ListLaws.{found, no_place, present}
use Rattle.dns_denial.proofs.NameLaws.{ends_cons, ends_short, ends_whole}

-- one SOA record at the apex, and none elsewhere; all owners are at or below the apex; no NS records at a wildcard
pub record HasStart (z : ZoneState) : Type 0 where
  pub soa : list_any (is_record_at z.apex 6) z.records ≡ true
  pub alone : list_any (is_misplaced z.apex) z.records ≡ false
  pub within : list_any (is_outside z.apex) z.records ≡ false
  pub wild : list_any has_wild_servers z.records ≡ false

pub within_all : (apex : List (List ℕ)) (rs : List Record) → list_any (is_outside apex) rs ≡ false → (r : Record) → Contains rs r → ends_name r.owner apex ≡ true
within_all apex rs h r c = true_from_ne_false (ends_name r.owner apex) (λ e. true≢false (sym (present (is_outside apex) rs r c (not_from_false (ends_name r.owner apex) e)) ∙ h))

-- ---- the causes, none of which is there

cause_none : (c : Option TreeError) (cs : List (Option TreeError)) → first_cause (c ∷ cs) ≡ None → (c ≡ None) × (first_cause cs ≡ None)
cause_none None cs h = (refl, h)
cause_none (Some e) cs h = absurd (cc)

mapped_none : (f : ℕ → TreeError) (o : Option ℕ) → option_map f o ≡ None → o ≡ None
mapped_none f None h = refl
mapped_none f (Some i) h = absurd (cc)

module _ (p : Record → Bool) where
  kept_step : (b c : Bool) (x : Record) (ks : List Record) → (length ks ≡ 1 → c ≡ true) → length (cond b (x ∷ ks) ks) ≡ 1 → (b || c) ≡ true
  kept_step true c x ks ih h = refl
  kept_step false c x ks ih h = ih h

  kept_one : (xs : List Record) → length (filter p xs) ≡ 1 → list_any p xs ≡ true
  kept_one [] h = absurd (omega arith)
  kept_one (x ∷ xs) h = kept_step (p x) (list_any p xs) x (filter p xs) (kept_one xs) h

counted_one : (n : ℕ) → miscounted n ≡ None → n ≡ 1
counted_one n h = by_test (nat_eq n 1) refl h
  where
    by_test : (b : Bool) → nat_eq n 1 ≡ b → (if b then None else Some (Soa n)) ≡ None → n ≡ 1
    by_test true e k = grind (arith, nat_tests)
    by_test false e k = absurd (cc)

pub starts : (z : ZoneState) → tree_error z.apex z.records ≡ None → HasStart z
starts z h =
    let none : List (Option TreeError) = [] in
    let opts = option_map Opt (position (is_of 41) z.records) ∷ none in
    let classes = option_map Class (position has_other_class z.records) ∷ opts in
    let longs = option_map Long (position is_long z.records) ∷ none in
    let wilds = option_map WildNs (position has_wild_servers z.records) ∷ longs in
    let places = option_map SoaPlace (position (is_misplaced z.apex) z.records) ∷ wilds in
    let aliases = size_error z.records ∷ option_map Cname (position (is_crowded z.records) z.records) ∷ none in
    let a = cause_none (place_error z.apex z.records) (soa_error z.apex z.records ∷ aliases) h in
    let b = cause_none (soa_error z.apex z.records) aliases a.1 in
    let o = cause_none (option_map Outside (position (is_outside z.apex) z.records)) classes a.0 in
    let d = cause_none (miscounted (length (filter (is_of 6) z.records))) places b.0 in
    let e = cause_none (option_map SoaPlace (position (is_misplaced z.apex) z.records)) wilds d.1 in
    let w = cause_none (option_map WildNs (position has_wild_servers z.records)) longs e.1 in
    let within = no_place (is_outside z.apex) z.records (mapped_none Outside (position (is_outside z.apex) z.records) o.0) in
    let alone = no_place (is_misplaced z.apex) z.records (mapped_none SoaPlace (position (is_misplaced z.apex) z.records) e.0) in
    let wild = no_place has_wild_servers z.records (mapped_none WildNs (position has_wild_servers z.records) w.0) in
    let f = found (is_of 6) z.records (kept_one (is_of 6) z.records (counted_one (length (filter (is_of 6) z.records)) d.0)) in
    let at_apex : same_name f.one.owner z.apex ≡ true = true_from_ne_false (same_name f.one.owner z.apex) (λ k.
    true≢false (sym (present (is_misplaced z.apex) z.records f.one f.there (and_from (is_of 6 f.one) (not (same_name f.one.owner z.apex)) f.passes (not_from_false (same_name f.one.owner z.apex) k))) ∙ alone)) in
    record {
      soa = present (is_record_at z.apex 6) z.records f.one f.there (and_from (is_owned z.apex f.one) (is_of 6 f.one) at_apex f.passes);
      alone = alone;
      within = within;
      wild = wild;
    }

pub must_apex : (z : ZoneState) → HasStart z → must_have z z.apex ≡ true
must_apex z start =
    let r = found (is_record_at z.apex 6) z.records start.soa in
    let b = and_parts (is_owned z.apex r.one) (is_of 6 r.one) r.passes in
    let own : list_any (is_owned z.apex) z.records ≡ true = present (is_owned z.apex) z.records r.one r.there b.0 in
    let first : is_below_cut z z.apex ≡ false = false_from_ne_true (is_below_cut z z.apex) (λ k.
    let d = found (λ (q : Record). delegates z z.apex q && not (same_name q.owner z.apex)) z.records k in
    let p = and_parts (delegates z z.apex d.one) (not (same_name d.one.owner z.apex)) d.passes in
    let c = cut_of z z.apex d.one p.0 in
    let i : ends_name d.one.owner z.apex ≡ true = within_all z.apex z.records start.within d.one d.there in
    let j : same_name d.one.owner z.apex ≡ true = ends_whole d.one.owner z.apex i (omega (arith, ends_short d.one.owner z.apex i, ends_short z.apex d.one.owner c.above)) in
    true≢false (sym j ∙ c.inner)) in
    and_from (list_any (is_owned z.apex) z.records) (not (is_below_cut z z.apex)) own (not_from_false (is_below_cut z z.apex) first)

-- ---- wildcards

star_octet : (x : ℕ) → to_ascii_lowercase x ≡ 42 → x ≡ 42
star_octet x h = by_low (cases_lt x 65) (cases_lt 90 x)
  where
    by_low : (x < 65) ⊎ (65 ≤ x) → (90 < x) ⊎ (x ≤ 90) → x ≡ 42
    by_low (inl l) k = sym ((lowercase_is x).1 l) ∙ h
    by_low (inr l) (inl k) = sym ((lowercase_is x).2 k) ∙ h
    by_low (inr l) (inr k) = absurd (omega (arith, h, (lowercase_is x).0 (l, k)))

star_label : (l : List ℕ) → map to_ascii_lowercase l ≡ 42 ∷ [] → bytes_eq l star ≡ true
star_label [] h = absurd (cc)
star_label (x ∷ []) h =
    let a : to_ascii_lowercase x ≡ 42 = cc in
    ap (λ (y : ℕ). bytes_eq (y ∷ []) star) (star_octet x a)
star_label (x ∷ y ∷ l) h = absurd (cc)

-- a name that is the same as a wildcard is one
pub wild_owner : (e name : List (List ℕ)) → same_name (star ∷ e) name ≡ true → is_wild name ≡ true
wild_owner e [] h = absurd (true≢false (sym h))
wild_owner e (l ∷ ls) h =
    let f : folded (star ∷ e) ≡ folded (l ∷ ls) = (same_name_Decides (star ∷ e) (l ∷ ls)).0 h in
    let g : map to_ascii_lowercase l ≡ 42 ∷ [] = cc in
    star_label l g

-- no wildcard is at or below a cut, if the name that it is below isn't: NS records at a wildcard aren't served
pub wild_uncut : (z : ZoneState) → HasStart z → (e : List (List ℕ)) → is_cut_off z e ≡ false → is_cut_off z (star ∷ e) ≡ false
wild_uncut z start e a = false_from_ne_true (is_cut_off z (star ∷ e)) (λ h.
    let f = found (delegates z (star ∷ e)) z.records h in
    let c = cut_of z (star ∷ e) f.one f.passes in
    by_end f.one f.there c.servers c.inner (ends_cons star e f.one.owner c.above))
  where
    by_end : (r : Record) → Contains z.records r → is_of 2 r ≡ true → same_name r.owner z.apex ≡ false → (same_name (star ∷ e) r.owner ≡ true) ⊎ (ends_name e r.owner ≡ true) → ⊥
    by_end r t s i (inl k) = true≢false (sym (present has_wild_servers z.records r t (and_from (is_of 2 r) (is_wild r.owner) s (wild_owner e r.owner k))) ∙ start.wild)
    by_end r t s i (inr k) = true≢false (sym (cut_by z e r t s k i) ∙ a)
