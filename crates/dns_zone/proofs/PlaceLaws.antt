-- Places of records: the records at them, and which they are.
use Rattle.std.proofs.Common.{◌≡◌, ℕ, zero, suc, ◌+◌, ◌<◌, Bool, true, false, List, [], ◌∷◌, ◌++◌, length, cond, nat_eq, Some, refl, ap, sym, ◌∙◌, arith, append_assoc, length-append}
use Rattle.std.specs.Prelude.{◌||◌, if◌then◌else◌}
use Rattle.std.specs.List.{AllByRecursion, filter, list_any, slice_get, cons_option}
use Rattle.std.specs.List.Sorted.{IsStrictlySortedBy}
use Rattle.std.specs.Cmp.{nat_cmp_is}
use Rattle.std.specs.Ordering.{nat_cmp}
use Rattle.std.specs.declared.cmp.Ordering.TheVariants.{Less}
use Rattle.std.proofs.lemmas.Bool.Decides.{nat_tests}
use Rattle.std.proofs.lemmas.List.{nil_from_length}
use Rattle.dns_message.specs.declared.record.Record.{Record}
use Rattle.dns_zone.specs.Places.{at_places, passes, places, places_from}

eq_self : (a : ℕ) → nat_eq a a ≡ true
eq_self a = grind (arith, nat_tests)

eq_less : (a b : ℕ) → a < b → nat_eq a b ≡ false
eq_less a b h = grind (arith, nat_tests)

eq_more : (a b : ℕ) → b < a → nat_eq a b ≡ false
eq_more a b h = grind (arith, nat_tests)

-- ---- the records at places

pub get_seam : (pre : List Record) (r : Record) (rs : List Record) → slice_get (pre ++ r ∷ rs) (length pre) ≡ Some r
get_seam [] r rs = refl
get_seam (x ∷ pre) r rs = get_seam pre r rs

at_from : (p : Record → Bool) (pre rs : List Record) (k : ℕ) → k ≡ length pre → at_places (pre ++ rs) (places_from p k rs) ≡ filter p rs
at_from p pre [] k n = refl
at_from p pre (r ∷ rs) k n =
    let m : suc k ≡ length (pre ++ r ∷ []) = omega (arith, length-append pre (r ∷ [])) in
    let ih : at_places (pre ++ r ∷ rs) (places_from p (suc k) rs) ≡ filter p rs =
    ap (λ l. at_places l (places_from p (suc k) rs)) (sym (append_assoc pre (r ∷ []) rs)) ∙ at_from p (pre ++ r ∷ []) rs (suc k) m
    in
    let here : slice_get (pre ++ r ∷ rs) k ≡ Some r = ap (slice_get (pre ++ r ∷ rs)) n ∙ get_seam pre r rs in
    elim (p r) as (λ (b : Bool). at_places (pre ++ r ∷ rs) (if b then k ∷ places_from p (suc k) rs else places_from p (suc k) rs) ≡ cond b (r ∷ filter p rs) (filter p rs)) [
      | true ↦ ap (λ o. cons_option o (at_places (pre ++ r ∷ rs) (places_from p (suc k) rs))) here ∙ ap (λ l. r ∷ l) ih
      | false ↦ ih
    ]

-- the records at the places of those that pass a test are those that pass it
pub at_places_of : (p : Record → Bool) (rs : List Record) → at_places rs (places p rs) ≡ filter p rs
at_places_of p rs = at_from p [] rs 0 refl

pub places_agree : (p q : Record → Bool) → ((r : Record) → p r ≡ q r) → (rs : List Record) (k : ℕ) → places_from p k rs ≡ places_from q k rs
places_agree p q e [] k = refl
places_agree p q e (r ∷ rs) k =
    ap (λ b. if b then k ∷ places_from p (suc k) rs else places_from p (suc k) rs) (e r) ∙ ap (λ l. if q r then k ∷ l else l) (places_agree p q e rs (suc k))

-- as many places as records
places_length : (p : Record → Bool) (rs : List Record) (k : ℕ) → length (places_from p k rs) ≡ length (filter p rs)
places_length p [] k = refl
places_length p (r ∷ rs) k =
    elim (p r) as (λ (b : Bool). length (if b then k ∷ places_from p (suc k) rs else places_from p (suc k) rs) ≡ length (cond b (r ∷ filter p rs) (filter p rs))) [
      | true ↦ ap (λ n. suc n) (places_length p rs (suc k))
      | false ↦ places_length p rs (suc k)
    ]

pub places_count : (p : Record → Bool) (rs : List Record) → length (places p rs) ≡ length (filter p rs)
places_count p rs = places_length p rs 0

some_step : (b c : Bool) (k : ℕ) (is : List ℕ) → (0 < length is → c ≡ true) → 0 < length (if b then k ∷ is else is) → (b || c) ≡ true
some_step true c k is ih h = refl
some_step false c k is ih h = ih h

any_by_length : (p : Record → Bool) (rs : List Record) (k : ℕ) → 0 < length (places_from p k rs) → list_any p rs ≡ true
any_by_length p [] k h = absurd (omega arith)
any_by_length p (r ∷ rs) k h = some_step (p r) (list_any p rs) k (places_from p (suc k) rs) (any_by_length p rs (suc k)) h

-- there are places if a record passes
pub places_some : (p : Record → Bool) (rs : List Record) → 0 < length (places p rs) → list_any p rs ≡ true
places_some p rs h = any_by_length p rs 0 h

none_step : (b c : Bool) (k : ℕ) (is : List ℕ) → (is ≡ [] → c ≡ false) → (if b then k ∷ is else is) ≡ [] → (b || c) ≡ false
none_step true c k is ih h = absurd (cc)
none_step false c k is ih h = ih h

none_by : (p : Record → Bool) (rs : List Record) (k : ℕ) → places_from p k rs ≡ [] → list_any p rs ≡ false
none_by p [] k h = refl
none_by p (r ∷ rs) k h = none_step (p r) (list_any p rs) k (places_from p (suc k) rs) (none_by p rs (suc k)) h

-- and none if none does
pub places_none : (p : Record → Bool) (rs : List Record) → places p rs ≡ [] → list_any p rs ≡ false
places_none p rs h = none_by p rs 0 h

empty_step : (b c : Bool) (r : Record) (ks : List Record) → (c ≡ false → ks ≡ []) → (b || c) ≡ false → cond b (r ∷ ks) ks ≡ []
empty_step true c r ks ih h = absurd (cc)
empty_step false c r ks ih h = ih h

filter_none : (p : Record → Bool) (rs : List Record) → list_any p rs ≡ false → filter p rs ≡ []
filter_none p [] h = refl
filter_none p (r ∷ rs) h = empty_step (p r) (list_any p rs) r (filter p rs) (filter_none p rs) h

pub no_records : (p : Record → Bool) (rs : List Record) → list_any p rs ≡ false → filter p rs ≡ []
no_records p rs h = filter_none p rs h

-- ---- which places they are

below : (p : Record → Bool) (rs : List Record) (i k : ℕ) → i < k → list_any (nat_eq i) (places_from p k rs) ≡ false
below p [] i k h = refl
below p (r ∷ rs) i k h =
    let l : i < suc k = omega arith in
    elim (p r) as (λ (b : Bool). list_any (nat_eq i) (if b then k ∷ places_from p (suc k) rs else places_from p (suc k) rs) ≡ false) [
      | true ↦ ap (λ b. b || list_any (nat_eq i) (places_from p (suc k) rs)) (eq_less i k h) ∙ below p rs i (suc k) l
      | false ↦ below p rs i (suc k) l
    ]

at_or_behind : (p : Record → Bool) (rs : List Record) (k i n : ℕ) → n ≡ k + i → list_any (nat_eq n) (places_from p k rs) ≡ passes p (slice_get rs i)
at_or_behind p [] k i n e = refl
at_or_behind p (r ∷ rs) k zero n e =
    let m : n ≡ k = omega arith in
    let here : nat_eq n k ≡ true = grind (arith, nat_tests) in
    let behind : list_any (nat_eq n) (places_from p (suc k) rs) ≡ false = below p rs n (suc k) (omega arith) in
    elim (p r) as (λ (b : Bool). list_any (nat_eq n) (if b then k ∷ places_from p (suc k) rs else places_from p (suc k) rs) ≡ b) [
      | true ↦ ap (λ b. b || list_any (nat_eq n) (places_from p (suc k) rs)) here
      | false ↦ behind
    ]
at_or_behind p (r ∷ rs) k (suc i) n e =
    let ih = at_or_behind p rs (suc k) i n (omega arith) in
    elim (p r) as (λ (b : Bool). list_any (nat_eq n) (if b then k ∷ places_from p (suc k) rs else places_from p (suc k) rs) ≡ passes p (slice_get rs i)) [
      | true ↦ ap (λ b. b || list_any (nat_eq n) (places_from p (suc k) rs)) (eq_more n k (omega arith)) ∙ ih
      | false ↦ ih
    ]

-- a place is one of them exactly if the record at it passes
pub is_place : (p : Record → Bool) (rs : List Record) (i : ℕ) → list_any (nat_eq i) (places p rs) ≡ passes p (slice_get rs i)
is_place p rs i = at_or_behind p rs 0 i i (omega arith)

-- the first of them is that of the first record that passes
pub record IsFirst (xs : List Record) (i : ℕ) (is : List ℕ) (found : List Record) : Type 0 where
  pub record_ : Record
  pub at : slice_get xs i ≡ Some record_
  pub those : found ≡ record_ ∷ at_places xs is

first_step : (b : Bool) (xs : List Record) (r : Record) (k i : ℕ) (rest is : List ℕ) (found : List Record) → slice_get xs k ≡ Some r → at_places xs rest ≡ found →
    ((is : List ℕ) → rest ≡ i ∷ is → IsFirst xs i is found) → (if b then k ∷ rest else rest) ≡ i ∷ is → IsFirst xs i is (cond b (r ∷ found) found)
first_step true xs r k i rest is found at h ih e =
    let a : k ≡ i = cc in
    let b : rest ≡ is = cc in
    record { record_ = r; at = ap (slice_get xs) (sym a) ∙ at; those = ap (λ l. r ∷ l) (sym h ∙ ap (at_places xs) b) }
first_step false xs r k i rest is found at h ih e = ih is e

first_from : (p : Record → Bool) (xs pre rs : List Record) (k i : ℕ) → xs ≡ pre ++ rs → k ≡ length pre → (is : List ℕ) → places_from p k rs ≡ i ∷ is → IsFirst xs i is (filter p rs)
first_from p xs pre [] k i x n is e = absurd (cc)
first_from p xs pre (r ∷ rs) k i x n is e =
    let y : xs ≡ (pre ++ r ∷ []) ++ rs = x ∙ sym (append_assoc pre (r ∷ []) rs) in
    let m : suc k ≡ length (pre ++ r ∷ []) = omega (arith, n, length-append pre (r ∷ [])) in
    let at : slice_get xs k ≡ Some r = ap (λ l. slice_get l k) x ∙ (ap (slice_get (pre ++ r ∷ rs)) n ∙ get_seam pre r rs) in
    let found : at_places xs (places_from p (suc k) rs) ≡ filter p rs = ap (λ l. at_places l (places_from p (suc k) rs)) y ∙ at_from p (pre ++ r ∷ []) rs (suc k) m in
    first_step (p r) xs r k i (places_from p (suc k) rs) is (filter p rs) at found (first_from p xs (pre ++ r ∷ []) rs (suc k) i y m) e

pub first_place : (p : Record → Bool) (rs : List Record) (i : ℕ) (is : List ℕ) → places p rs ≡ i ∷ is → IsFirst rs i is (filter p rs)
first_place p rs i is e = first_from p rs [] rs 0 i refl refl is e

-- ---- places ascend

cmp_less : (a b : ℕ) → a < b → nat_cmp a b ≡ Less
cmp_less a b h = sym (nat_cmp_is a b Less h)

all_above : (p : Record → Bool) (rs : List Record) (k i : ℕ) → i < k → AllByRecursion (λ y. nat_cmp i y ≡ Less) (places_from p k rs)
all_above p [] k i h = tt
all_above p (r ∷ rs) k i h =
    elim (p r) as (λ (b : Bool). AllByRecursion (λ y. nat_cmp i y ≡ Less) (if b then k ∷ places_from p (suc k) rs else places_from p (suc k) rs)) [
      | true ↦ (cmp_less i k h, all_above p rs (suc k) i (omega arith))
      | false ↦ all_above p rs (suc k) i (omega arith)
    ]

ascend_from : (p : Record → Bool) (rs : List Record) (k : ℕ) → IsStrictlySortedBy nat_cmp (places_from p k rs)
unfolding IsStrictlySortedBy
ascend_from p [] k = tt
ascend_from p (r ∷ rs) k =
    elim (p r) as (λ (b : Bool). IsStrictlySortedBy nat_cmp (if b then k ∷ places_from p (suc k) rs else places_from p (suc k) rs)) [
      | true ↦ (all_above p rs (suc k) k (omega arith), ascend_from p rs (suc k))
      | false ↦ ascend_from p rs (suc k)
    ]

pub places_ascend : (p : Record → Bool) (rs : List Record) → IsStrictlySortedBy nat_cmp (places p rs)
places_ascend p rs = ascend_from p rs 0

-- ---- a record more

more_from : (p : Record → Bool) (rs : List Record) (r : Record) (k : ℕ) → places_from p k (rs ++ r ∷ []) ≡ places_from p k rs ++ (if p r then (k + length rs) ∷ [] else [])
more_from p [] r k = ap (λ n. if p r then n ∷ [] else []) (omega arith)
more_from p (x ∷ rs) r k =
    let e : suc k + length rs ≡ k + length (x ∷ rs) = omega arith in
    let ih : places_from p (suc k) (rs ++ r ∷ []) ≡ places_from p (suc k) rs ++ (if p r then (k + length (x ∷ rs)) ∷ [] else []) =
    more_from p rs r (suc k) ∙ ap (λ n. places_from p (suc k) rs ++ (if p r then n ∷ [] else [])) e
    in
    elim (p x) as (λ (b : Bool). (if b then k ∷ places_from p (suc k) (rs ++ r ∷ []) else places_from p (suc k) (rs ++ r ∷ [])) ≡ (if b then k ∷ places_from p (suc k) rs else places_from p (suc k) rs) ++ (if p r then (k + length (x ∷ rs)) ∷ [] else [])) [
      | true ↦ ap (λ l. k ∷ l) ih
      | false ↦ ih
    ]

pub places_more : (p : Record → Bool) (rs : List Record) (r : Record) → places p (rs ++ r ∷ []) ≡ places p rs ++ (if p r then length rs ∷ [] else [])
places_more p rs r = more_from p rs r 0 ∙ ap (λ n. places p rs ++ (if p r then n ∷ [] else [])) (omega arith)

-- if a record passes there is a place
pub some_places : (p : Record → Bool) (rs : List Record) → list_any p rs ≡ true → 0 < length (places p rs)
some_places p rs h = by_order (nat_eq (length (places p rs)) 0) refl
  where
    by_order : (b : Bool) → nat_eq (length (places p rs)) 0 ≡ b → 0 < length (places p rs)
    by_order true e =
        let z : length (places p rs) ≡ 0 = grind (arith, nat_tests) in
        let n : list_any p rs ≡ false = places_none p rs (nil_from_length (places p rs) z) in
        absurd (cc)
    by_order false e = grind (arith, nat_tests)
