-- The cut for a name, found label by label from the apex on.
use Rattle.std.proofs.Common.{◌≡◌, ℕ, ◌+◌, ◌-◌, ◌≤◌, ◌<◌, Bool, true, false, List, [], ◌∷◌, ◌++◌, length, map, take, drop, reverse, cond, get_or, nat_eq, nat_le, refl, ap, sym, ◌∙◌, arith, length-append}
use Rattle.std.specs.Prelude.{◌&&◌, ◌||◌, ◌==◌, not}
use Rattle.std.specs.Char.{to_ascii_lowercase}
use Rattle.std.specs.Cmp.{both_ways}
use Rattle.std.specs.List.{AllByRecursion, filter, list_all, list_any, starts_with}
use Rattle.std.proofs.lemmas.Bool.Decides.{nat_tests}
use Rattle.std.proofs.lemmas.List.{length-reverse, length-map, take-append-drop, take_all, take_at, take_more, drop_more, get_or_at}
use Rattle.dns_name.specs.Canonical.{same_name, same_name_Decides}
use Rattle.dns_name.specs.Labels.{folded, spell}
use Rattle.dns_message.specs.declared.record.Record.{Record}
use Rattle.dns_route.specs.Routes.{ends_name}
use Rattle.dns_zone.specs.declared.name_places.NamePlaces.{NamePlaces}
use Rattle.dns_zone.specs.Cuts.{cut_records, delegates, is_cut_off, is_shortest}
use Rattle.dns_zone.specs.ZoneIndex.{IsInZone, KnowsPlaces, places_under, stands_under}
use Rattle.dns_zone.specs.Owned.{ZoneState, is_of}
use Rattle.dns_zone.specs.Paths.{marked, name_path}
use Rattle.dns_zone.specs.Places.{at_places, places}
use Rattle.dns_zone.proofs.PathLaws.{begins_of, both_true, coded, coded_append, eq_true, first_true, le_true, path_at, path_begins, path_coded, second_true, true_eq, true_le, turned, turned_length}
use Rattle.dns_zone.proofs.PlaceLaws.{at_places_of, places_agree, places_none, places_some}

-- ---- records at a level: NS records whose owners have that many labels and end a name

abbrev pub at_level : List (List ℕ) → ℕ → Record → Bool
at_level q k r = (ends_name q r.owner && nat_eq (length r.owner) k) && is_of 2 r

-- none is at a level below the apex, down to that many labels
abbrev pub NoneUpTo : List (List ℕ) → List (List ℕ) → ℕ → List Record → Type 0
NoneUpTo apex q k rs = (j : ℕ) → length apex < j → j ≤ k → list_any (at_level q j) rs ≡ false

-- what is kept under the first labels of a name's path
pub level_places : (n : NamePlaces) (rs : List Record) (q : List (List ℕ)) (k : ℕ) (o : List ℕ) → KnowsPlaces n rs → k ≤ length q → o ≡ coded (take k (turned q)) → places_under n o 2 ≡ places (at_level q k) rs
level_places n rs q k o known h e =
    ap (λ p. places_under n p 2) e
    ∙ (known.kept (coded (take k (turned q))) 2
    ∙ places_agree (stands_under (coded (take k (turned q))) 2) (at_level q k) (λ r. ap (λ b. b && is_of 2 r) (path_at q r.owner k h)) rs 0)

-- ---- tests of one record

not_true : (b : Bool) → not b ≡ true → b ≡ false
not_true true h = absurd (cc)
not_true false h = refl

not_false : (b : Bool) → b ≡ false → not b ≡ true
not_false true h = absurd (cc)
not_false false h = refl

false_by : (b : Bool) → (b ≡ true → ⊥) → b ≡ false
false_by true h = absurd (h refl)
false_by false h = refl

folded_length : (ls : List (List ℕ)) → length (folded ls) ≡ length ls
folded_length ls = length-map ls (map to_ascii_lowercase)

-- a name with as many labels as one that it ends with is the same
ends_whole : (o apex : List (List ℕ)) → ends_name o apex ≡ true → length o ≡ length apex → same_name o apex ≡ true
ends_whole o apex h n =
    let z : length o - length apex ≡ 0 = omega arith in
    ap (λ k. same_name (drop k o) apex) (sym z) ∙ second_true (nat_le (length apex) (length o)) (same_name (drop (length o - length apex) o) apex) h

longer_apart : (o apex : List (List ℕ)) → length apex < length o → same_name o apex ≡ false
longer_apart o apex h = false_by (same_name o apex) (λ t. absurd (omega (arith, h, ap length ((same_name_Decides o apex).0 t), folded_length o, folded_length apex)))

module _ (z : ZoneState) (q : List (List ℕ)) where
  -- a record that delegates is below the apex
  below_apex : (r : Record) → ends_name r.owner z.apex ≡ true → delegates z q r ≡ true → length z.apex < length r.owner
  below_apex r w d =
      let e = second_true (is_of 2 r) (ends_name q r.owner && not (same_name r.owner z.apex)) d in
      let n : same_name r.owner z.apex ≡ false = not_true (same_name r.owner z.apex) (second_true (ends_name q r.owner) (not (same_name r.owner z.apex)) e) in
      let s : length z.apex ≤ length r.owner = (begins_of r.owner z.apex w).short in
      by_length (nat_eq (length r.owner) (length z.apex)) refl n s
    where
      by_length : (b : Bool) → nat_eq (length r.owner) (length z.apex) ≡ b → same_name r.owner z.apex ≡ false → length z.apex ≤ length r.owner → length z.apex < length r.owner
      by_length true e n s =
          let t : same_name r.owner z.apex ≡ true = ends_whole r.owner z.apex w (true_eq (length r.owner) (length z.apex) e) in
          absurd (cc)
      by_length false e n s = grind (arith, nat_tests)

  -- and at the level of its labels
  its_level : (r : Record) → delegates z q r ≡ true → at_level q (length r.owner) r ≡ true
  its_level r d =
      let t = first_true (is_of 2 r) (ends_name q r.owner && not (same_name r.owner z.apex)) d in
      let e = second_true (is_of 2 r) (ends_name q r.owner && not (same_name r.owner z.apex)) d in
      both_true (ends_name q r.owner && nat_eq (length r.owner) (length r.owner)) (is_of 2 r) (both_true (ends_name q r.owner) (nat_eq (length r.owner) (length r.owner)) (first_true (ends_name q r.owner) (not (same_name r.owner z.apex)) e) (eq_true (length r.owner) (length r.owner) refl)) t

  level_ends : (k : ℕ) (r : Record) → at_level q k r ≡ true → (ends_name q r.owner ≡ true) × (length r.owner ≡ k) × (is_of 2 r ≡ true)
  level_ends k r h =
      let f = first_true (ends_name q r.owner && nat_eq (length r.owner) k) (is_of 2 r) h in
      (first_true (ends_name q r.owner) (nat_eq (length r.owner) k) f, true_eq (length r.owner) k (second_true (ends_name q r.owner) (nat_eq (length r.owner) k) f), second_true (ends_name q r.owner && nat_eq (length r.owner) k) (is_of 2 r) h)

  -- a record at a level below the apex delegates
  level_delegates : (k : ℕ) (r : Record) → length z.apex < k → at_level q k r ≡ true → delegates z q r ≡ true
  level_delegates k r l h =
      let e = level_ends k r h in
      both_true (is_of 2 r) (ends_name q r.owner && not (same_name r.owner z.apex)) e.2
      (both_true (ends_name q r.owner) (not (same_name r.owner z.apex)) e.0 (not_false (same_name r.owner z.apex) (longer_apart r.owner z.apex (omega (arith, l, e.1)))))

  -- ---- all records

  either_false : (a b : Bool) → (a || b) ≡ false → (a ≡ false) × (b ≡ false)
  either_false true b h = absurd (cc)
  either_false false b h = (refl, h)

  none_first : (k : ℕ) (r : Record) (rs : List Record) → NoneUpTo z.apex q k (r ∷ rs) → (j : ℕ) → length z.apex < j → j ≤ k → at_level q j r ≡ false
  none_first k r rs n j l h = (either_false (at_level q j r) (list_any (at_level q j) rs) (n j l h)).0

  none_rest : (k : ℕ) (r : Record) (rs : List Record) → NoneUpTo z.apex q k (r ∷ rs) → NoneUpTo z.apex q k rs
  none_rest k r rs n = λ j l h. (either_false (at_level q j r) (list_any (at_level q j) rs) (n j l h)).1

  -- a record that delegates has more labels than the levels at which there is none
  passes_levels : (k : ℕ) (r : Record) (rs : List Record) → NoneUpTo z.apex q k (r ∷ rs) → ends_name r.owner z.apex ≡ true → delegates z q r ≡ true → k < length r.owner
  passes_levels k r rs n w d = by_order (nat_le (length r.owner) k) refl
    where
      by_order : (b : Bool) → nat_le (length r.owner) k ≡ b → k < length r.owner
      by_order true e =
          let f : at_level q (length r.owner) r ≡ false = none_first k r rs n (length r.owner) (below_apex r w d) (true_le (length r.owner) k e) in
          let t : at_level q (length r.owner) r ≡ true = its_level r d in
          absurd (cc)
      by_order false e = grind (arith, nat_tests)

  none_cut_step : (k : ℕ) (r : Record) (rs : List Record) → length q ≤ k → NoneUpTo z.apex q k (r ∷ rs) → ends_name r.owner z.apex ≡ true → (b : Bool) → delegates z q r ≡ b → list_any (delegates z q) rs ≡ false → (b || list_any (delegates z q) rs) ≡ false
  none_cut_step k r rs m n w true d ih =
      let a = passes_levels k r rs n w d in
      let e = level_ends (length r.owner) r (its_level r d) in
      absurd (omega (arith, a, m, (begins_of q r.owner e.0).short))
  none_cut_step k r rs m n w false d ih = ih

  -- if there is none at any level, there is no cut
  pub none_cut : (k : ℕ) (rs : List Record) → length q ≤ k → NoneUpTo z.apex q k rs → AllByRecursion (IsInZone z.apex) rs → list_any (delegates z q) rs ≡ false
  none_cut k [] m n w = refl
  none_cut k (r ∷ rs) m n w = none_cut_step k r rs m n w.0 (delegates z q r) refl (none_cut k rs m (none_rest k r rs n) w.1)

  some_cut_step : (k : ℕ) (r : Record) (rs : List Record) → length z.apex < k → (b : Bool) → at_level q k r ≡ b → (list_any (at_level q k) rs ≡ true → list_any (delegates z q) rs ≡ true) → (b || list_any (at_level q k) rs) ≡ true → (delegates z q r || list_any (delegates z q) rs) ≡ true
  some_cut_step k r rs l true e ih h = ap (λ b. b || list_any (delegates z q) rs) (level_delegates k r l e)
  some_cut_step k r rs l false e ih h = or_second (delegates z q r) (list_any (delegates z q) rs) (ih h)
    where
      or_second : (a b : Bool) → b ≡ true → (a || b) ≡ true
      or_second true b h = refl
      or_second false b h = h

  pub some_cut : (k : ℕ) (rs : List Record) → length z.apex < k → list_any (at_level q k) rs ≡ true → list_any (delegates z q) rs ≡ true
  some_cut k [] l h = h
  some_cut k (r ∷ rs) l h = some_cut_step k r rs l (at_level q k r) refl (some_cut k rs l) h

  -- ---- the records of the cut

  all_step : (k : ℕ) (r : Record) (rs : List Record) → NoneUpTo z.apex q k (r ∷ rs) → ends_name r.owner z.apex ≡ true → (b : Bool) → delegates z q r ≡ b →
      list_all (λ (s : Record). nat_le (k + 1) (length s.owner)) (filter (delegates z q) rs) ≡ true → list_all (λ (s : Record). nat_le (k + 1) (length s.owner)) (cond b (r ∷ filter (delegates z q) rs) (filter (delegates z q) rs)) ≡ true
  all_step k r rs n w true d ih =
      let a = passes_levels k r rs n w d in
      both_true (nat_le (k + 1) (length r.owner)) (list_all (λ (s : Record). nat_le (k + 1) (length s.owner)) (filter (delegates z q) rs)) (le_true (k + 1) (length r.owner) (omega (arith, a))) ih
  all_step k r rs n w false d ih = ih

  -- those that delegate have more labels than the levels at which there is none
  all_behind : (k : ℕ) (rs : List Record) → NoneUpTo z.apex q k rs → AllByRecursion (IsInZone z.apex) rs → list_all (λ (s : Record). nat_le (k + 1) (length s.owner)) (filter (delegates z q) rs) ≡ true
  all_behind k [] n w = refl
  all_behind k (r ∷ rs) n w = all_step k r rs n w.0 (delegates z q r) refl (all_behind k rs (none_rest k r rs n) w.1)

  all_of_one : (m : ℕ) (ss : List Record) → list_all (λ (s : Record). nat_le m (length s.owner)) ss ≡ true → (k : ℕ) → k ≡ m → list_all (λ (s : Record). nat_le k (length s.owner)) ss ≡ true
  all_of_one m ss h k e = ap (λ i. list_all (λ (s : Record). nat_le i (length s.owner)) ss) e ∙ h

  some_step : (m : ℕ) (r : Record) (rs : List Record) → length z.apex < m → (k : ℕ) → (a b : Bool) → at_level q m r ≡ a → delegates z q r ≡ b →
      (list_any (at_level q m) rs ≡ true → list_all (λ (s : Record). nat_le k (length s.owner)) (filter (delegates z q) rs) ≡ true → k ≤ m) →
      (a || list_any (at_level q m) rs) ≡ true → list_all (λ (s : Record). nat_le k (length s.owner)) (cond b (r ∷ filter (delegates z q) rs) (filter (delegates z q) rs)) ≡ true → k ≤ m
  some_step m r rs l k true true e d ih h g =
      let n = true_le k (length r.owner) (first_true (nat_le k (length r.owner)) (list_all (λ (s : Record). nat_le k (length s.owner)) (filter (delegates z q) rs)) g) in
      omega (arith, n, (level_ends m r e).1)
  some_step m r rs l k true false e d ih h g =
      let t : delegates z q r ≡ true = level_delegates m r l e in
      absurd (cc)
  some_step m r rs l k false true e d ih h g = ih h (second_true (nat_le k (length r.owner)) (list_all (λ (s : Record). nat_le k (length s.owner)) (filter (delegates z q) rs)) g)
  some_step m r rs l k false false e d ih h g = ih h g

  -- a number that none of their labels is below is at most that of a level at which there is one
  at_most : (m : ℕ) (rs : List Record) → length z.apex < m → (k : ℕ) → list_any (at_level q m) rs ≡ true → list_all (λ (s : Record). nat_le k (length s.owner)) (filter (delegates z q) rs) ≡ true → k ≤ m
  at_most m [] l k h g = absurd (cc)
  at_most m (r ∷ rs) l k h g = some_step m r rs l k (at_level q m r) (delegates z q r) refl refl (at_most m rs l k) h g

  -- of the records that delegate the shortest are those at the level
  shortest_at : (k : ℕ) (r : Record) (rs ds : List Record) → length z.apex ≤ k → NoneUpTo z.apex q k (r ∷ rs) → ends_name r.owner z.apex ≡ true →
      list_all (λ (s : Record). nat_le (k + 1) (length s.owner)) ds ≡ true → ((i : ℕ) → list_all (λ (s : Record). nat_le i (length s.owner)) ds ≡ true → i ≤ k + 1) →
      (delegates z q r && is_shortest ds r) ≡ at_level q (k + 1) r
  shortest_at k r rs ds l n w b m =
      let there : (delegates z q r && is_shortest ds r) ≡ true → at_level q (k + 1) r ≡ true = λ t.
      let d = first_true (delegates z q r) (is_shortest ds r) t in
      let i : length r.owner ≤ k + 1 = m (length r.owner) (second_true (delegates z q r) (is_shortest ds r) t) in
      let j : k < length r.owner = passes_levels k r rs n w d in
      let e : length r.owner ≡ k + 1 = omega (arith, i, j) in
      ap (λ x. at_level q x r) (sym e) ∙ its_level r d
      in
      let back : at_level q (k + 1) r ≡ true → (delegates z q r && is_shortest ds r) ≡ true = λ t.
      both_true (delegates z q r) (is_shortest ds r) (level_delegates (k + 1) r (omega (arith, l)) t) (all_of_one (k + 1) ds b (length r.owner) (level_ends (k + 1) r t).1)
      in
      both_ways _ _ there back

  kept_step : (o : Record → Bool) (r : Record) (rs ys : List Record) (c : Bool) → (delegates z q r && o r) ≡ c → filter o (filter (delegates z q) rs) ≡ ys → filter o (filter (delegates z q) (r ∷ rs)) ≡ cond c (r ∷ ys) ys
  kept_step o r rs ys c e ih =
      let step : filter o (cond (delegates z q r) (r ∷ filter (delegates z q) rs) (filter (delegates z q) rs)) ≡ cond (delegates z q r && o r) (r ∷ ys) ys =
      elim (delegates z q r) as (λ (b : Bool). filter o (cond b (r ∷ filter (delegates z q) rs) (filter (delegates z q) rs)) ≡ cond (b && o r) (r ∷ ys) ys) [
        | true ↦ ap (λ (l : List Record). cond (o r) (r ∷ l) l) ih
        | false ↦ ih
      ]
      in
      step ∙ ap (λ b. cond b (r ∷ ys) ys) e

  shortest_all : (k : ℕ) (rs ds : List Record) → length z.apex ≤ k → NoneUpTo z.apex q k rs → AllByRecursion (IsInZone z.apex) rs →
      list_all (λ (s : Record). nat_le (k + 1) (length s.owner)) ds ≡ true → ((i : ℕ) → list_all (λ (s : Record). nat_le i (length s.owner)) ds ≡ true → i ≤ k + 1) →
      filter (is_shortest ds) (filter (delegates z q) rs) ≡ filter (at_level q (k + 1)) rs
  shortest_all k [] ds l n w b m = refl
  shortest_all k (r ∷ rs) ds l n w b m =
      kept_step (is_shortest ds) r rs (filter (at_level q (k + 1)) rs) (at_level q (k + 1) r) (shortest_at k r rs ds l n w.0 b m) (shortest_all k rs ds l (none_rest k r rs n) w.1 b m)

  -- the records of the cut are those at the first level below the apex at which there are some
  pub cut_at : (k : ℕ) → length z.apex ≤ k → NoneUpTo z.apex q k z.records → AllByRecursion (IsInZone z.apex) z.records → list_any (at_level q (k + 1)) z.records ≡ true → cut_records z q ≡ filter (at_level q (k + 1)) z.records
  cut_at k l n w some =
      shortest_all k z.records (filter (delegates z q) z.records) l n w (all_behind k z.records n w) (λ i g. at_most (k + 1) z.records (omega (arith, l)) i some g)

  -- one level more without any
  pub none_more : (k : ℕ) → NoneUpTo z.apex q k z.records → list_any (at_level q (k + 1)) z.records ≡ false → NoneUpTo z.apex q (k + 1) z.records
  none_more k n e = λ j l h. more_by (nat_le j k) j l h refl
    where
      more_by : (b : Bool) (j : ℕ) → length z.apex < j → j ≤ k + 1 → nat_le j k ≡ b → list_any (at_level q j) z.records ≡ false
      more_by true j l h t = n j l (true_le j k t)
      more_by false j l h t =
          let i : j ≡ k + 1 = grind (arith, nat_tests) in
          ap (λ x. list_any (at_level q x) z.records) i ∙ e

-- ---- along a path

spelt : (ls : List (List ℕ)) → length (spell ls) ≡ length (marked (folded ls)) + 1
spelt [] = omega arith
spelt (l ∷ ls) =
    let m = map to_ascii_lowercase l in
    omega (arith, length-append l (spell ls), length-append m (length m ∷ marked (folded ls)), length-map l to_ascii_lowercase, spelt ls)

-- a path has an octet less than the name as it is written
pub path_length : (ls : List (List ℕ)) → length (name_path ls) + 1 ≡ length (spell ls)
unfolding name_path
path_length ls = omega (arith, spelt ls, length-reverse (marked (folded ls)))

-- a place on the path of a name, after that many labels from its end on
pub record IsAlong (z : ZoneState) (q : List (List ℕ)) (o : List ℕ) (end : ℕ) : Type 0 where
  pub labels : ℕ
  pub few : labels ≤ length q
  pub least : length z.apex ≤ labels
  pub place : end ≡ length (coded (take labels (turned q)))
  pub none : NoneUpTo z.apex q labels z.records

-- the octets of the apex
pub along_first : (z : ZoneState) (q : List (List ℕ)) (o : List ℕ) (end : ℕ) → ends_name q z.apex ≡ true → end + 1 ≡ length (spell z.apex) → IsAlong z q o end
along_first z q o end h n =
    let b = begins_of q z.apex h in
    record {
      labels = length z.apex;
      few = b.short;
      least = omega arith;
      place = omega (arith, n, path_length z.apex, ap length (path_coded z.apex), ap (λ l. length (coded l)) b.first);
      none = λ j l m. absurd (omega (arith, l, m));
    }

module _ (z : ZoneState) (q : List (List ℕ)) (o : List ℕ) (end : ℕ) (p : o ≡ name_path q) (a : IsAlong z q o end) where
  coded_rest : o ≡ coded (take a.labels (turned q)) ++ coded (drop a.labels (turned q))
  coded_rest = p ∙ (path_coded q ∙ (ap coded (sym (take-append-drop a.labels (turned q))) ∙ coded_append (take a.labels (turned q)) (drop a.labels (turned q))))

  -- if octets are left, a label is
  pub label_left : end < length o → a.labels < length q
  label_left h = by_order (nat_le (length q) a.labels) refl
    where
      by_order : (b : Bool) → nat_le (length q) a.labels ≡ b → a.labels < length q
      by_order true e =
          let t : take a.labels (turned q) ≡ turned q = take_all a.labels (turned q) (omega (arith, turned_length q, true_le (length q) a.labels e)) in
          absurd (omega (arith, h, a.place, ap (λ l. length (coded l)) t, ap length p, ap length (path_coded q)))
      by_order false e = grind (arith, nat_tests)

  -- the next label, whose length stands at the place
  pub record Next : Type 0 where
    pub label : List ℕ
    pub octet : get_or o end 0 ≡ length label
    pub end_ : end + (length label + 1) ≡ length (coded (take (a.labels + 1) (turned q)))
    pub octets : take (end + (length label + 1)) o ≡ coded (take (a.labels + 1) (turned q))
    pub within : end + (length label + 1) ≤ length o

  next_at : a.labels < length q → Next
  next_at h =
      let t = turned q in
      let k = a.labels in
      let i : k < length t = omega (arith, h, turned_length q) in
      let l = get_or t k [] in
      let d : drop k t ≡ l ∷ drop (k + 1) t = drop_more t k [] i in
      let f : take (k + 1) t ≡ take k t ++ l ∷ [] = take_more t k [] i in
      let s : o ≡ coded (take k t) ++ (length l ∷ (reverse l ++ coded (drop (k + 1) t))) = coded_rest ∙ ap (λ x. coded (take k t) ++ coded x) d in
      let g : coded (take (k + 1) t) ≡ coded (take k t) ++ coded (l ∷ []) = ap coded f ∙ coded_append (take k t) (l ∷ []) in
      let w : o ≡ coded (take (k + 1) t) ++ coded (drop (k + 1) t) = p ∙ (path_coded q ∙ (ap coded (sym (take-append-drop (k + 1) t)) ∙ coded_append (take (k + 1) t) (drop (k + 1) t))) in
      let n : end + (length l + 1) ≡ length (coded (take (k + 1) t)) =
      omega (arith, a.place, ap length g, length-append (coded (take k t)) (coded (l ∷ [])), length-append (reverse l) [], length-reverse l)
      in
      record {
        label = l;
        octet = ap (λ x. get_or x end 0) s ∙ get_or_at (coded (take k t)) (length l) (reverse l ++ coded (drop (k + 1) t)) 0 end (sym a.place);
        end_ = n;
        octets = ap (take (end + (length l + 1))) w ∙ take_at (coded (take (k + 1) t)) (coded (drop (k + 1) t)) (end + (length l + 1)) (sym n);
        within = omega (arith, n, ap length w, length-append (coded (take (k + 1) t)) (coded (drop (k + 1) t)));
      }

  pub next : end < length o → Next
  next h = next_at (label_left h)

  -- if no octets are left, no label is
  pub all_along : length o ≤ end → length q ≤ a.labels
  all_along h = by_order (nat_le (length q) a.labels) refl
    where
      by_order : (b : Bool) → nat_le (length q) a.labels ≡ b → length q ≤ a.labels
      by_order true e = true_le (length q) a.labels e
      by_order false e =
          let l : a.labels < length q = grind (arith, nat_tests) in
          absurd (omega (arith, (next_at l).within, h))

-- ---- what is found on the way

-- a name whose path is that of a name that ends with another ends with it too
pub ends_like : (a b apex : List (List ℕ)) → name_path a ≡ name_path b → ends_name a apex ≡ true → ends_name b apex ≡ true
ends_like a b apex e h = sym (path_begins b apex) ∙ (ap (λ o. starts_with ◌==◌ o (name_path apex)) (sym e) ∙ (path_begins a apex ∙ h))

module _ (z : ZoneState) (n : NamePlaces) (known : KnowsPlaces n z.records) (within : AllByRecursion (IsInZone z.apex) z.records) (q : List (List ℕ)) (o : List ℕ) (end : ℕ) (p : o ≡ name_path q) (a : IsAlong z q o end) where
  level_here : end < length o → places_under n (take (end + (get_or o end 0 + 1)) o) 2 ≡ places (at_level q (a.labels + 1)) z.records
  level_here h =
      let x = next z q o end p a h in
      level_places n z.records q (a.labels + 1) (take (end + (get_or o end 0 + 1)) o) known (omega (arith, label_left z q o end p a h)) (ap (λ i. take (end + (i + 1)) o) x.octet ∙ x.octets)

  pub cut_found : end < length o → (is : List ℕ) → is ≡ places_under n (take (end + (get_or o end 0 + 1)) o) 2 → 0 < length is → (is_cut_off z q ≡ true) × (at_places z.records is ≡ cut_records z q)
  cut_found h is e l =
      let f : is ≡ places (at_level q (a.labels + 1)) z.records = e ∙ level_here h in
      let s : list_any (at_level q (a.labels + 1)) z.records ≡ true = places_some (at_level q (a.labels + 1)) z.records (omega (arith, l, ap length f)) in
      (some_cut z q (a.labels + 1) z.records (omega (arith, a.least)) s, ap (at_places z.records) f ∙ (at_places_of (at_level q (a.labels + 1)) z.records ∙ sym (cut_at z q a.labels a.least a.none within s)))

  pub cut_passed : end < length o → places_under n (take (end + (get_or o end 0 + 1)) o) 2 ≡ [] → IsAlong z q o (end + (get_or o end 0 + 1))
  cut_passed h e =
      let x = next z q o end p a h in
      record {
        labels = a.labels + 1;
        few = omega (arith, label_left z q o end p a h);
        least = omega (arith, a.least);
        place = omega (arith, x.octet, x.end_);
        none = none_more z q a.labels a.none (places_none (at_level q (a.labels + 1)) z.records (sym (level_here h) ∙ e));
      }

  pub cut_none : length o ≤ end → is_cut_off z q ≡ false
  cut_none h = none_cut z q a.labels z.records (all_along z q o end p a h) a.none within

  -- the octets up to the next label's end
  pub part_within : end < length o → end + (get_or o end 0 + 1) ≤ length o
  part_within h =
      let x = next z q o end p a h in
      omega (arith, x.octet, x.within)
