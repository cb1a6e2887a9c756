-- Numbers, types and words of digits that are written read as these.
use Rattle.std.proofs.Common.{◌≡◌, ℕ, ◌+◌, ◌-◌, ◌*◌, ◌^◌, ◌≤◌, ◌<◌, List, [], ◌∷◌, ◌++◌, length, take, true, false, Some, None, inl, refl, ap, ◌∙◌, arith, rules}
use Rattle.std.specs.Prelude.{Bool, ◌&&◌, ◌||◌, not, map, codes, decimal, nat_eq, nat_lt, slice_index, if◌then◌else◌}
use Rattle.std.specs.Char.{is_ascii_digit, to_ascii_lowercase}
use Rattle.std.specs.Int.{is_in_range}
use Rattle.std.specs.List.{list_all}
use Rattle.std.specs.Str.{bytes_eq}
use Rattle.std.proofs.lemmas.Bool.{and_parts, false_from_ne_true, lt-ltb}
use Rattle.std.proofs.lemmas.Bool.Decides.{nat_tests}
use Rattle.std.proofs.lemmas.Fmt.{decimal_nonempty, digits_decimal, digits_value-decimal}
use Rattle.std.proofs.lemmas.Slice.Eq.{bytes_eq-Decides}
use Rattle.std.proofs.lemmas.Str.Parse.{IsNumeralModel, numerals_by_fold}
use Rattle.dns_entries.specs.Entries.{ends_word}
use Rattle.dns_zone_file.specs.Lines.{IsBare, IsWord, goes_on}
use Rattle.dns_presentation.specs.Types.{class_of, is_meta, spells, type_of}
use Rattle.dns_word_values.specs.Values.{decimal_after, number_below, period}
use Rattle.dns_record_text.specs.RecordText.{bare_word, number_word, numbered_type}
use Rattle.dns_zone_file.proofs.NamesBack.{IsDigit, inner}

abbrev read_on : ℕ → List ℕ → ℕ
read_on n [] = n
read_on n (c ∷ cs) = read_on (10 * n + (c - 48)) cs

abbrev pub AreDigits : List ℕ → Type 0
AreDigits ds = list_all (is_in_range 48 57) ds ≡ true

pub own : IsNumeralModel AreDigits (read_on 0)
own = numerals_by_fold AreDigits (search rules) read_on (search rules)

grows : (n : ℕ) (ds : List ℕ) → n ≤ read_on n ds
grows n [] = omega arith
grows n (c ∷ cs) = omega (arith, grows (10 * n + (c - 48)) cs)

digits_read : (top n : ℕ) (ds : List ℕ) → AreDigits ds → read_on n ds < top → decimal_after top n ds ≡ Some (read_on n ds)
digits_read top n [] h k = refl
digits_read top n (c ∷ cs) h k =
    let parts = and_parts (is_in_range 48 57 c) (list_all (is_in_range 48 57) cs) h in
    let below : nat_lt (10 * n + (c - 48)) top ≡ true = lt-ltb (10 * n + (c - 48)) top (omega (arith, grows (10 * n + (c - 48)) cs)) in
    rw (parts.0, below) (digits_read top (10 * n + (c - 48)) cs parts.1 k)

some_digit : (n : ℕ) → n < 2 ^ 64 → nat_eq (length (decimal n)) 0 ≡ false
some_digit n small = let h = decimal_nonempty n small in grind (arith, nat_tests)

pub number_back : (top n : ℕ) → n < top → n < 2 ^ 64 → number_below top (decimal n) ≡ Some n
unfolding number_below
number_back top n h small =
    let v = digits_value-decimal own n small in
    rw (some_digit n small) (digits_read top 0 (decimal n) (digits_decimal own n small) (omega (arith, v)) ∙ ap (λ (x : ℕ). Some x) v)

pub period_back : (n : ℕ) → n < 4294967296 → period (decimal n) ≡ Some n
unfolding period
period_back n h = rw (some_digit n (omega arith), number_back 4294967296 n h (omega arith)) refl

pub digit : (c : ℕ) → is_in_range 48 57 c ≡ true → IsDigit c
digit c h = inner c (grind (arith, nat_tests)) (grind (arith, nat_tests))

digits_go : (ds : List ℕ) → AreDigits ds → goes_on false ds ≡ true
digits_go [] h = refl
digits_go (c ∷ cs) h =
    let parts = and_parts (is_in_range 48 57 c) (list_all (is_in_range 48 57) cs) h in
    let d = digit c parts.0 in
    rw (d.backslash, d.word) (digits_go cs parts.1)

bare_of : (w : List ℕ) → 0 < length w → goes_on false w ≡ true → IsBare (bare_word w)
bare_of [] h g = absurd (omega arith)
bare_of (c ∷ cs) h g = record { bare = refl; first = c; others = cs; cells = refl; goes = g }

pub word_of : (w : List ℕ) → 0 < length w → goes_on false w ≡ true → IsWord (bare_word w)
word_of w h g = inl (bare_of w h g)

pub begins_so : (ds : List ℕ) → AreDigits ds → 0 < length ds → is_ascii_digit (slice_index ds 0) ≡ true
begins_so [] h k = absurd (omega arith)
begins_so (c ∷ cs) h k = (and_parts (is_in_range 48 57 c) (list_all (is_in_range 48 57) cs) h).0

pub decimal_word : (n : ℕ) → n < 2 ^ 64 → IsWord (number_word n)
decimal_word n small = word_of (decimal n) (decimal_nonempty n small) (digits_go (decimal n) (digits_decimal own n small))

pub type_back : (t : ℕ) → t < 65536 → is_meta t ≡ false → type_of (numbered_type t) ≡ Some t
type_back t h m = rw (number_back 65536 t h (omega arith), m) refl

pub numbered_word : (t : ℕ) → t < 65536 → IsWord (bare_word (numbered_type t))
numbered_word t h = inl (record { bare = refl; first = 84; others = 89 ∷ 80 ∷ 69 ∷ decimal t; cells = refl; goes = digits_go (decimal t) (digits_decimal own t (omega arith)) })

-- a word that begins with a digit spells none that begins with a letter
starts_other : (x c : ℕ) (xs cs : List ℕ) → is_in_range 48 57 c ≡ true → 57 < to_ascii_lowercase x → spells (x ∷ xs) (c ∷ cs) ≡ false
starts_other x c xs cs h k =
    false_from_ne_true (spells (x ∷ xs) (c ∷ cs))
    (λ same.
    let e : map to_ascii_lowercase (c ∷ cs) ≡ map to_ascii_lowercase (x ∷ xs) = (bytes_eq-Decides (map to_ascii_lowercase (c ∷ cs)) (map to_ascii_lowercase (x ∷ xs))).0 same in
    let first : to_ascii_lowercase c ≡ to_ascii_lowercase x = ap (λ l. slice_index l 0) e in
    let kept : to_ascii_lowercase c ≡ c = grind (arith, nat_tests) in
    let top : c ≤ 57 = grind (arith, nat_tests) in
    omega arith)

pub digits_no_class : (ds : List ℕ) → AreDigits ds → 0 < length ds → class_of ds ≡ None
digits_no_class [] h k = absurd (omega arith)
digits_no_class (c ∷ cs) h k =
    let d = (and_parts (is_in_range 48 57 c) (list_all (is_in_range 48 57) cs) h).0 in
    rw (
      starts_other 105 c (110 ∷ []) cs d (omega arith),
      starts_other 99 c (108 ∷ 97 ∷ 115 ∷ 115 ∷ 49 ∷ []) cs d (omega arith),
      starts_other 99 c (104 ∷ []) cs d (omega arith),
      starts_other 104 c (115 ∷ []) cs d (omega arith),
      starts_other 99 c (108 ∷ 97 ∷ 115 ∷ 115 ∷ []) (take 4 cs) d (omega arith),
    )
    refl

-- ---- words without backslashes

-- no backslash, and nothing that ends a word
abbrev pub is_inner : ℕ → Bool
is_inner c = not (nat_eq c 92) && not (ends_word c)

not_so : (b : Bool) → not b ≡ true → b ≡ false
not_so true h = cc
not_so false h = refl

pub inner_go : (w : List ℕ) → list_all is_inner w ≡ true → goes_on false w ≡ true
inner_go [] h = refl
inner_go (c ∷ w) h =
    let parts = and_parts (is_inner c) (list_all is_inner w) h in
    let two = and_parts (not (nat_eq c 92)) (not (ends_word c)) parts.0 in
    rw (not_so (nat_eq c 92) two.0, not_so (ends_word c) two.1) (inner_go w parts.1)

pub weaker_all : (p q : ℕ → Bool) → ((c : ℕ) → p c ≡ true → q c ≡ true) → (w : List ℕ) → list_all p w ≡ true → list_all q w ≡ true
weaker_all p q f [] h = refl
weaker_all p q f (c ∷ w) h = let parts = and_parts (p c) (list_all p w) h in rw (f c parts.0, weaker_all p q f w parts.1) refl

digit_inner : (c : ℕ) → is_in_range 48 57 c ≡ true → is_inner c ≡ true
digit_inner c h = let d = digit c h in rw (d.backslash, d.word) refl

pub digits_inner : (ds : List ℕ) → AreDigits ds → list_all is_inner ds ≡ true
digits_inner ds h = weaker_all (is_in_range 48 57) is_inner digit_inner ds h

-- such a word doesn't say that octets follow
pub no_generic : (w : List ℕ) → list_all is_inner w ≡ true → bytes_eq w (codes "\\#") ≡ false
no_generic w h =
    false_from_ne_true (bytes_eq w (codes "\\#"))
    (λ same.
    let e : w ≡ codes "\\#" = (bytes_eq-Decides w (codes "\\#")).0 same in
    let all : list_all is_inner (codes "\\#") ≡ true = rw e at h in
    cc all)
