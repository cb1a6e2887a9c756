-- Rising lists of numbers, of which one has all that the other has, and the keys of a map.
use Rattle.std.proofs.Common.{◌≡◌, ◌≢◌, ℕ, List, [], ◌∷◌, true, false, refl, sym, ◌∙◌, arith, Less, ⊎_elim}
use Rattle.std.specs.Prelude.{nat_eq, is_some}
use Rattle.std.specs.List.{list_any, flat_map, AllByRecursion}
use Rattle.std.specs.List.Sorted.{IsStrictlySortedBy}
use Rattle.std.specs.Ordering.{nat_cmp}
use Rattle.std.specs.BTreeMap.{BTreeMap, get, keys, is_at}
use Rattle.std.proofs.lemmas.Bool.{eq-eqb, ne_eqb, cases_eq}
use Rattle.std.proofs.lemmas.Bool.Decides.{nat_tests}
use Rattle.std.proofs.lemmas.Map.Keys.{sorted_head, sorted_tail}
use Rattle.std.proofs.lemmas.Map.Made.{is_some-lookup}
use Rattle.std.proofs.Math.Bool.{or-true}

-- what is less than all of them isn't among them
pub less_absent : (c : ℕ) (ns : List ℕ) → AllByRecursion (λ y. nat_cmp c y ≡ Less) ns → list_any (nat_eq c) ns ≡ false
less_absent c [] h = refl
less_absent c (n ∷ ns) h =
    let ne : nat_eq c n ≡ false = grind (arith, nat_tests, h.0) in
    rw (ne, less_absent c ns h.1) refl

above_more : (c n : ℕ) (ns : List ℕ) → nat_cmp c n ≡ Less → AllByRecursion (λ y. nat_cmp n y ≡ Less) ns → AllByRecursion (λ y. nat_cmp c y ≡ Less) ns
above_more c n [] h a = tt
above_more c n (m ∷ ns) h a = let l : nat_cmp c m ≡ Less = grind (arith, nat_tests, h, a.0) in (l, above_more c n ns h a.1)

-- what is there with one more, and without the first
more_there : (c m : ℕ) (ms : List ℕ) → list_any (nat_eq c) ms ≡ true → list_any (nat_eq c) (m ∷ ms) ≡ true
more_there c m ms h = rw h (or-true (nat_eq c m))

less_there : (c m : ℕ) (ms : List ℕ) → c ≢ m → list_any (nat_eq c) (m ∷ ms) ≡ list_any (nat_eq c) ms
less_there c m ms ne = rw (ne_eqb c m ne) refl

first_there : (m : ℕ) (ms : List ℕ) → list_any (nat_eq m) (m ∷ ms) ≡ true
first_there m ms = rw (eq-eqb m m refl) refl

-- in a rising list the first stands once
rest_apart : (c m : ℕ) (ms : List ℕ) → IsStrictlySortedBy nat_cmp (m ∷ ms) → list_any (nat_eq c) ms ≡ true → c ≢ m
rest_apart c m ms so there same =
    let absent = less_absent m ms (sorted_head nat_cmp m ms so) in
    let t = rw same at there in cc

all_above : (k n : ℕ) (ns : List ℕ) → AllByRecursion (λ y. nat_cmp k y ≡ Less) ns → list_any (nat_eq n) ns ≡ true → nat_cmp k n ≡ Less
all_above k n [] a there = cc
all_above k n (m ∷ ns) a there =
    ⊎_elim
    (λ (same : n ≡ m). rw same a.0)
    (λ (apart : n ≢ m). all_above k n ns a.1 (sym (less_there n m ns apart) ∙ there))
    (cases_eq n m)

-- what stands before the first of a rising list isn't in it
below_absent : (m k : ℕ) (ms ks : List ℕ) → IsStrictlySortedBy nat_cmp (m ∷ ms) → IsStrictlySortedBy nat_cmp (k ∷ ks) → list_any (nat_eq k) ms ≡ true → list_any (nat_eq m) (k ∷ ks) ≡ false
below_absent m k ms ks so so' there =
    let l = all_above m k ms (sorted_head nat_cmp m ms so) there in
    less_absent m (k ∷ ks) (l, above_more m k ks l (sorted_head nat_cmp k ks so'))

module _ {X : Type 0} (g : ℕ → List X) where
  abbrev pub Among : List ℕ → List ℕ → Type 0
  Among ks ms = (c : ℕ) → list_any (nat_eq c) ks ≡ true → list_any (nat_eq c) ms ≡ true

  abbrev pub Silent : List ℕ → List ℕ → Type 0
  Silent ks ms = (c : ℕ) → list_any (nat_eq c) ms ≡ true → list_any (nat_eq c) ks ≡ false → g c ≡ []

  both_case : (k m : ℕ) (ks ms : List ℕ) → k ≡ m → IsStrictlySortedBy nat_cmp (k ∷ ks) → IsStrictlySortedBy nat_cmp (m ∷ ms) → Among (k ∷ ks) (m ∷ ms) → Silent (k ∷ ks) (m ∷ ms)
      → (Among ks ms → Silent ks ms → flat_map g ks ≡ flat_map g ms) → flat_map g (k ∷ ks) ≡ flat_map g (m ∷ ms)
  both_case k m ks ms same so so' among silent more =
      let rest = more
      (λ c there. sym (less_there c m ms (λ (e : c ≡ m). rest_apart c k ks so there (e ∙ sym same))) ∙ among c (more_there c k ks there))
      (λ c there absent. silent c (more_there c m ms there) (less_there c k ks (λ (e : c ≡ k). rest_apart c m ms so' there (e ∙ same)) ∙ absent)) in
      rw (same, rest) refl

  skip_case : (k m : ℕ) (ks ms : List ℕ) → k ≢ m → IsStrictlySortedBy nat_cmp (k ∷ ks) → IsStrictlySortedBy nat_cmp (m ∷ ms) → Among (k ∷ ks) (m ∷ ms) → Silent (k ∷ ks) (m ∷ ms)
      → (Among (k ∷ ks) ms → Silent (k ∷ ks) ms → flat_map g (k ∷ ks) ≡ flat_map g ms) → flat_map g (k ∷ ks) ≡ flat_map g (m ∷ ms)
  skip_case k m ks ms apart so so' among silent more =
      let there : list_any (nat_eq k) ms ≡ true = sym (less_there k m ms apart) ∙ among k (first_there k ks) in
      let absent = below_absent m k ms ks so' so there in
      let rest = more
      (λ c here. sym (less_there c m ms (λ (e : c ≡ m). let h = rw e at here in cc)) ∙ among c here)
      (λ c here gone. silent c (more_there c m ms here) gone) in
      rw (silent m (first_there m ms) absent) rest

  none_silent : (ms : List ℕ) → Silent [] ms → [] ≡ flat_map g ms
  none_silent [] silent = refl
  none_silent (m ∷ ms) silent = rw (silent m (first_there m ms) refl) (none_silent ms (λ c there gone. silent c (more_there c m ms there) gone))

  -- if those of the one are of the other, and nothing is told of the rest, the same is told
  pub flat_among : (ms ks : List ℕ) → IsStrictlySortedBy nat_cmp ks → IsStrictlySortedBy nat_cmp ms → Among ks ms → Silent ks ms → flat_map g ks ≡ flat_map g ms
  flat_among ms [] so so' among silent = none_silent ms silent
  flat_among [] (k ∷ ks) so so' among silent = let no = among k (first_there k ks) in cc
  flat_among (m ∷ ms) (k ∷ ks) so so' among silent =
      ⊎_elim
      (λ (same : k ≡ m). both_case k m ks ms same so so' among silent (flat_among ms ks (sorted_tail nat_cmp k ks so) (sorted_tail nat_cmp m ms so')))
      (λ (apart : k ≢ m). skip_case k m ks ms apart so so' among silent (flat_among ms (k ∷ ks) so (sorted_tail nat_cmp m ms so')))
      (cases_eq k m)

same_test : (c n : ℕ) → is_at (nat_cmp c) n ≡ nat_eq c n
same_test c n = grind (arith, nat_tests)

same_tests : (c : ℕ) (ns : List ℕ) → list_any (is_at (nat_cmp c)) ns ≡ list_any (nat_eq c) ns
same_tests c [] = refl
same_tests c (n ∷ ns) = rw (same_test c n, same_tests c ns) refl

-- of what something is kept is a key
pub has_key : {X : Type 0} (m : BTreeMap ℕ X) (c : ℕ) → is_some (get nat_cmp m c) ≡ list_any (nat_eq c) (keys m)
has_key m c = is_some-lookup (is_at (nat_cmp c)) m.entries ∙ same_tests c (keys m)
