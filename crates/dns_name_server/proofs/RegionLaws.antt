-- If a zone has no DNAME record, its authority reaches down a name to the cut of the name.
use Rattle.std.proofs.Common.{◌≡◌, ℕ, zero, suc, ◌+◌, ◌-◌, ◌≤◌, ◌<◌, Bool, true, false, List, [], ◌∷◌, length, drop, get_or, nat_eq, nat_le, refl, ap, sym, subst, ◌∙◌, arith, inl, inr}
use Rattle.std.specs.Prelude.{◌&&◌, ◌||◌, ◌⊎◌, not, if◌then◌else◌}
use Rattle.std.specs.Cmp.{both_ways}
use Rattle.std.specs.List.{AllByRecursion, filter, list_any}
use Rattle.std.proofs.lemmas.List.{drop_more, length-drop}
use Rattle.std.proofs.lemmas.List.Elements.{filter_agree}
use Rattle.dns_name.specs.Canonical.{same_name, same_name_equiv}
use Rattle.dns_message.specs.declared.record.Record.{Record}
use Rattle.dns_route.specs.Routes.{ends_name}
use Rattle.dns_zone.specs.Cuts.{cut_records, is_cut_off}
use Rattle.dns_zone.specs.ZoneIndex.{IsInZone}
use Rattle.dns_zone.specs.Owned.{ZoneState, asked_records, is_asked, is_of, is_owned}
use Rattle.dns_zone.proofs.CutLaws.{NoneUpTo, at_level, cut_at, none_cut, none_more, some_cut}
use Rattle.dns_zone.proofs.PathLaws.{begins_of, both_true, eq_true, first_true, le_true, same_length, second_true, true_eq}
use Rattle.dns_zone.proofs.PlaceLaws.{no_records}
use Rattle.dns_zone_tree.specs.Regions.{Region, Within, BelowCut, BelowDname, down, is_cut, region}
use Rattle.dns_zone_tree.specs.Wildcards.{are_some}
use Rattle.dns_zone_tree.proofs.DownLaws.{any_false, down_within, false_by, region_apex}

some_step : (b c : Bool) (r : Record) (ks : List Record) → are_some ks ≡ c → are_some (if b then r ∷ ks else ks) ≡ (if b then true else c)
some_step true c r ks h = refl
some_step false c r ks h = h

or_else : (b c : Bool) → (if b then true else c) ≡ (b || c)
or_else true c = refl
or_else false c = refl

-- a test passes if a filter leaves something
some_any : (p : Record → Bool) (rs : List Record) → are_some (filter p rs) ≡ list_any p rs
some_any p [] = refl
some_any p (r ∷ rs) = some_step (p r) (list_any p rs) r (filter p rs) (some_any p rs) ∙ or_else (p r) (list_any p rs)

module _ (z : ZoneState) (q : List (List ℕ)) (within : AllByRecursion (IsInZone z.apex) z.records) (inside : ends_name q z.apex ≡ true) (plain : list_any (is_of 39) z.records ≡ false) where
  -- ---- the name after all labels but that many

  part : ℕ → List (List ℕ)
  part k = drop (length q - k) q

  part_length : (k : ℕ) → k ≤ length q → length (part k) ≡ k
  unfolding part
  part_length k h = omega (arith, h, length-drop (length q - k) q)

  -- the NS records at a level are those of the name there
  level_there : (k : ℕ) (r : Record) → k ≤ length q → (ends_name q r.owner && nat_eq (length r.owner) k) ≡ true → same_name r.owner (part k) ≡ true
  unfolding part
  level_there k r h e =
      let n : length r.owner ≡ k = true_eq (length r.owner) k (second_true (ends_name q r.owner) (nat_eq (length r.owner) k) e) in
      let s : same_name (drop (length q - length r.owner) q) r.owner ≡ true = second_true (nat_le (length r.owner) (length q)) (same_name (drop (length q - length r.owner) q) r.owner) (first_true (ends_name q r.owner) (nat_eq (length r.owner) k) e) in
      same_name_equiv.symm r.owner (drop (length q - k) q) ∙ (sym (ap (λ (i : ℕ). same_name (drop (length q - i) q) r.owner) n) ∙ s)

  level_back : (k : ℕ) (r : Record) → k ≤ length q → same_name r.owner (part k) ≡ true → (ends_name q r.owner && nat_eq (length r.owner) k) ≡ true
  unfolding part
  level_back k r h e =
      let n : length r.owner ≡ k = same_length r.owner (part k) e ∙ part_length k h in
      let s : same_name (drop (length q - length r.owner) q) r.owner ≡ true = ap (λ (i : ℕ). same_name (drop (length q - i) q) r.owner) n ∙ (same_name_equiv.symm (drop (length q - k) q) r.owner ∙ e) in
      both_true (ends_name q r.owner) (nat_eq (length r.owner) k) (both_true (nat_le (length r.owner) (length q)) (same_name (drop (length q - length r.owner) q) r.owner) (le_true (length r.owner) (length q) (omega (arith, n, h))) s) (eq_true (length r.owner) k n)

  level_same : (k : ℕ) (r : Record) → k ≤ length q → at_level q k r ≡ is_asked (part k) 2 r
  level_same k r h = ap (λ (b : Bool). b && is_of 2 r) (both_ways (ends_name q r.owner && nat_eq (length r.owner) k) (same_name r.owner (part k)) (level_there k r h) (level_back k r h))

  level_records : (k : ℕ) → k ≤ length q → filter (at_level q k) z.records ≡ asked_records z (part k) 2
  level_records k h = filter_agree (at_level q k) (is_asked (part k) 2) (λ r. level_same k r h) z.records

  -- ---- label by label

  no_dname : (name : List (List ℕ)) → asked_records z name 39 ≡ []
  no_dname name = no_records (is_asked name 39) z.records (any_false (is_asked name 39) (is_of 39) (λ r e. second_true (is_owned name r) (is_of 39 r) e) z.records plain)

  -- down to that many labels
  Reaches : ℕ → Type 0
  Reaches k = (NoneUpTo z.apex q k z.records × (region z (part k) ≡ Within)) ⊎ ((is_cut_off z q ≡ true) × (region z (part k) ≡ BelowCut (cut_records z q)))

  not_apex : (k : ℕ) → k ≤ length q → length z.apex < k → same_name (part k) z.apex ≡ false
  not_apex k h l = false_by (same_name (part k) z.apex) (λ e. omega (arith, same_length (part k) z.apex e, part_length k h, l))

  cut_is : (k : ℕ) (b : Bool) → k ≤ length q → length z.apex < k → list_any (at_level q k) z.records ≡ b → is_cut z (part k) ≡ b
  cut_is k b h l e =
      ap (λ (c : Bool). are_some (asked_records z (part k) 2) && not c) (not_apex k h l)
      ∙ (and_true (are_some (asked_records z (part k) 2)) ∙ (ap are_some (sym (level_records k h)) ∙ (some_any (at_level q k) z.records ∙ e)))
    where
      and_true : (c : Bool) → (c && true) ≡ c
      and_true true = refl
      and_true false = refl

  next_part : (k : ℕ) → k + 1 ≤ length q → part (k + 1) ≡ get_or q (length q - (k + 1)) [] ∷ part k
  unfolding part
  next_part k h =
      let n : (length q - (k + 1)) + 1 ≡ length q - k = omega (arith, h) in
      drop_more q (length q - (k + 1)) [] (omega (arith, h)) ∙ ap (λ (i : ℕ). get_or q (length q - (k + 1)) [] ∷ drop i q) n

  -- one label further
  down_one : (k : ℕ) (r : Region) → k + 1 ≤ length q → region z (part k) ≡ r → region z (part (k + 1)) ≡ down z true (part (k + 1)) (part k) r
  down_one k r h e =
      let p = next_part k h in
      ap (region z) p ∙ (ap (down z true (get_or q (length q - (k + 1)) [] ∷ part k) (part k)) e ∙ ap (λ (n : List (List ℕ)). down z true n (part k) r) (sym p))

  cut_down : (k : ℕ) → is_cut z (part (k + 1)) ≡ true → down z true (part (k + 1)) (part k) Within ≡ BelowCut (asked_records z (part (k + 1)) 2)
  cut_down k e =
      ap (λ (rs : List Record). if are_some rs then BelowDname rs else (if is_cut z (part (k + 1)) then BelowCut (asked_records z (part (k + 1)) 2) else Within)) (no_dname (part k))
      ∙ ap (λ (b : Bool). if b then BelowCut (asked_records z (part (k + 1)) 2) else Within) e

  on_by : (k : ℕ) (b : Bool) → length z.apex ≤ k → k + 1 ≤ length q → list_any (at_level q (k + 1)) z.records ≡ b → NoneUpTo z.apex q k z.records → region z (part k) ≡ Within → Reaches (k + 1)
  unfolding Reaches
  on_by k true l h e n w =
      let c = cut_is (k + 1) true h (omega (arith, l)) e in
      let s = some_cut z q (k + 1) z.records (omega (arith, l)) e in
      let f = cut_at z q k l n within e in
      inr (s, down_one k Within h w ∙ (cut_down k c ∙ ap BelowCut (sym (f ∙ level_records (k + 1) h))))
  on_by k false l h e n w =
      let c = cut_is (k + 1) false h (omega (arith, l)) e in
      inl (none_more z q k n e, down_one k Within h w ∙ down_within z within true (part (k + 1)) (part k) Within refl (no_dname (part k)) c)

  on_one : (k : ℕ) → length z.apex ≤ k → k + 1 ≤ length q → Reaches k → Reaches (k + 1)
  unfolding Reaches
  on_one k l h (inl (n, w)) = on_by k (list_any (at_level q (k + 1)) z.records) l h refl n w
  on_one k l h (inr (s, r)) = inr (s, down_one k (BelowCut (cut_records z q)) h r)

  first_part : Reaches (length z.apex)
  unfolding Reaches part
  first_part =
      let e = second_true (nat_le (length z.apex) (length q)) (same_name (drop (length q - length z.apex) q) z.apex) inside in
      inl ((λ j l m. absurd (omega (arith, l, m))), region_apex z within (part (length z.apex)) e)

  all_down : (n k : ℕ) → k ≡ n + length z.apex → k ≤ length q → Reaches k
  all_down zero k e h = subst Reaches (sym (e_zero k e)) first_part
    where
      e_zero : (k : ℕ) → k ≡ 0 + length z.apex → k ≡ length z.apex
      e_zero k e = omega (arith, e)
  all_down (suc n) k e h =
      let j = n + length z.apex in
      let s : k ≡ j + 1 = omega (arith, e) in
      subst Reaches (sym s) (on_one j (omega arith) (omega (arith, s, h)) (all_down n j refl (omega (arith, s, h))))

  self_less : (n : ℕ) → n - n ≡ 0
  self_less n = omega arith

  ended : Reaches (length q) → region z q ≡ (if is_cut_off z q then BelowCut (cut_records z q) else Within)
  unfolding Reaches part
  ended (inl (n, w)) =
      let d : drop (length q - length q) q ≡ q = ap (λ (i : ℕ). drop i q) (self_less (length q)) in
      let c = none_cut z q (length q) z.records (omega arith) n within in
      sym (ap (region z) d) ∙ (w ∙ sym (ap (λ (b : Bool). if b then BelowCut (cut_records z q) else Within) c))
  ended (inr (s, r)) =
      let d : drop (length q - length q) q ≡ q = ap (λ (i : ℕ). drop i q) (self_less (length q)) in
      sym (ap (region z) d) ∙ (r ∙ sym (ap (λ (b : Bool). if b then BelowCut (cut_records z q) else Within) s))

  pub region_is : region z q ≡ (if is_cut_off z q then BelowCut (cut_records z q) else Within)
  region_is =
      let s = (begins_of q z.apex inside).short in
      ended (all_down (length q - length z.apex) (length q) (omega (arith, s)) (omega arith))
