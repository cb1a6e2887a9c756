-- The text of a code reads as that code.
use Rattle.std.proofs.Common.{◌≡◌, ℕ, ◌+◌, ◌-◌, ◌*◌, ◌^◌, ◌<◌, Bool, true, false, ◌&&◌, not, List, [], ◌∷◌, ◌++◌, length, take, drop, map, Option, Some, None, nat_eq, nat_lt, nat_le, if◌then◌else◌, decimal, refl, sym, subst, ap, ◌∙◌, arith, rules, length-append}
use Rattle.std.specs.Char.{is_ascii_digit, to_ascii_lowercase}
use Rattle.std.specs.Int.{is_in_range}
use Rattle.std.specs.List.{find, list_all}
use Rattle.std.proofs.lemmas.Bool.{and_from, and_parts, false_from_ne_true, le-leb, lt-ltb}
use Rattle.std.proofs.lemmas.Bool.Decides.{nat_tests}
use Rattle.std.proofs.lemmas.Fmt.{decimal_nonempty, digits_decimal, digits_value-decimal, length-decimal-le}
use Rattle.std.proofs.lemmas.List.{take-map, drop-map}
use Rattle.std.proofs.lemmas.Slice.Eq.{bytes_eq-Decides}
use Rattle.std.proofs.lemmas.Str.Parse.{IsNumeralModel, numerals_by_fold}
use Rattle.std.proofs.Math.Seq.{take-append_seam, drop-append_seam}
use Rattle.dns_name.specs.declared.registry.Registry.{Registry}
use Rattle.dns_name.specs.declared.registry.Registry.TheVariants.{Classes, Rtypes, OptionCodes, ErrorCodes, Opcodes, Rcodes}
use Rattle.dns_name.specs.Registries.{Entry, code_named, code_text, entries, has_name, has_number, name_or, number_behind, number_of_digits, number_or, same_letters, with_digits, word_of}

-- ---- decimal digits

abbrev read_on : ℕ → List ℕ → ℕ
read_on n [] = n
read_on n (c ∷ cs) = read_on (10 * n + (c - 48)) cs

abbrev AreDigits : List ℕ → Type 0
AreDigits ds = list_all (is_in_range 48 57) ds ≡ true

own : IsNumeralModel AreDigits (read_on 0)
own = numerals_by_fold AreDigits (search rules) read_on (search rules)

digits_read : (n : ℕ) (ds : List ℕ) → AreDigits ds → with_digits n ds ≡ Some (read_on n ds)
digits_read n [] h = refl
digits_read n (c ∷ cs) h =
    let parts = and_parts (is_in_range 48 57 c) (list_all (is_in_range 48 57) cs) h in
    rw parts.0 (digits_read (10 * n + (c - 48)) cs parts.1)

digits_back : (n : ℕ) → n < 65536 → number_of_digits (decimal n) ≡ Some n
digits_back n small =
    let wide : n < 2 ^ 64 = omega arith in
    let some : nat_lt 0 (length (decimal n)) ≡ true = lt-ltb 0 (length (decimal n)) (decimal_nonempty n wide) in
    let short : nat_le (length (decimal n)) 5 ≡ true = le-leb (length (decimal n)) 5 (length-decimal-le 5 n (omega arith) (omega arith) wide) in
    let read : with_digits 0 (decimal n) ≡ Some n = digits_read 0 (decimal n) (digits_decimal own n wide) ∙ ap (λ (v : ℕ). Some v) (digits_value-decimal own n wide) in
    let within : nat_lt n 65536 ≡ true = lt-ltb n 65536 small in
    rw (and_from _ _ some short, read, within) refl

-- ---- what a registry has to be, so that its texts read back

abbrev begins_with_digit : List ℕ → Bool
begins_with_digit [] = false
begins_with_digit (c ∷ cs) = is_ascii_digit c

abbrev is_of : ℕ → Option Entry → Bool
is_of n (Some e) = nat_eq e.0 n
is_of n None = false

-- the first entry of each name has the number that the name stands at
abbrev names_back : List Entry → List Entry → Bool
names_back all [] = true
names_back all (e ∷ es) = is_of e.0 (find (has_name e.1) all) && names_back all es

-- a name that begins with the registry's word and a digit
abbrev is_numbered : List ℕ → List ℕ → Bool
is_numbered word t = same_letters (take (length word) t) word && begins_with_digit (drop (length word) t)

-- no name does
abbrev none_numbered : List ℕ → List Entry → Bool
none_numbered word [] = true
none_numbered word (e ∷ es) = not (is_numbered word e.1) && none_numbered word es

record IsTable (r : Registry) : Type 0 where
  back : names_back (entries r) (entries r) ≡ true
  apart : none_numbered (word_of r) (entries r) ≡ true

are_tables : (r : Registry) → IsTable r
are_tables Classes = record { back = refl; apart = refl }
are_tables Rtypes = record { back = refl; apart = refl }
are_tables OptionCodes = record { back = refl; apart = refl }
are_tables ErrorCodes = record { back = refl; apart = refl }
are_tables Opcodes = record { back = refl; apart = refl }
are_tables Rcodes = record { back = refl; apart = refl }

-- ---- a number with a name

first_fits : (p : Entry → Bool) (es : List Entry) (e : Entry) → find p es ≡ Some e → p e ≡ true
first_fits p [] e h = absurd (cc)
first_fits p (x ∷ es) e h =
    elim (p x) as (λ b. (p x ≡ b) → (if b then Some x else find p es) ≡ Some e → p e ≡ true)
    [ true ↦ λ q k. (let y : x ≡ e = cc in subst (λ (z : Entry). p z ≡ true) y q) | false ↦ λ q k. first_fits p es e k ] refl h

found_back : (p : Entry → Bool) (all es : List Entry) (e : Entry) → names_back all es ≡ true → find p es ≡ Some e → is_of e.0 (find (has_name e.1) all) ≡ true
found_back p all [] e b h = absurd (cc)
found_back p all (x ∷ es) e b h =
    let parts = and_parts (is_of x.0 (find (has_name x.1) all)) (names_back all es) b in
    elim (p x) as (λ b. (if b then Some x else find p es) ≡ Some e → is_of e.0 (find (has_name e.1) all) ≡ true)
    [ true ↦ λ k. (let y : x ≡ e = cc in subst (λ (z : Entry). is_of z.0 (find (has_name z.1) all) ≡ true) y parts.0) | false ↦ λ k. found_back p all es e parts.1 k ] h

its_number : (n : ℕ) (other : Option ℕ) (o : Option Entry) → is_of n o ≡ true → number_or other o ≡ Some n
its_number n other None h = absurd (cc)
its_number n other (Some e) h = let k : e.0 ≡ n = grind (arith, nat_tests) in ap (λ (m : ℕ). Some m) k

named_back : (r : Registry) (n : ℕ) (e : Entry) → find (has_number n) (entries r) ≡ Some e → code_named r e.1 ≡ Some n
named_back r n e h =
    let same : nat_eq e.0 n ≡ true = first_fits (has_number n) (entries r) e h in
    let number : e.0 ≡ n = grind (arith, nat_tests) in
    its_number e.0 (number_behind (word_of r) e.1) (find (has_name e.1) (entries r)) (found_back (has_number n) (entries r) (entries r) e (are_tables r).back h)
    ∙ ap (λ (m : ℕ). Some m) number

-- ---- a number without a name

lower_digit : (c d : ℕ) → is_in_range 48 57 d ≡ true → to_ascii_lowercase c ≡ to_ascii_lowercase d → is_ascii_digit c ≡ true
lower_digit c d h e = grind (arith, nat_tests)

first_digit : (t ds : List ℕ) (d : ℕ) → is_in_range 48 57 d ≡ true → map to_ascii_lowercase t ≡ to_ascii_lowercase d ∷ ds → begins_with_digit t ≡ true
first_digit [] ds d h e = absurd (cc)
first_digit (c ∷ t) ds d h e = let k : to_ascii_lowercase c ≡ to_ascii_lowercase d = cc in lower_digit c d h k

-- a name that is read as a word and digits begins so
numbered_so : (name word ds : List ℕ) (d : ℕ) → is_in_range 48 57 d ≡ true → same_letters name (word ++ d ∷ ds) ≡ true → is_numbered word name ≡ true
numbered_so name word ds d h e =
    let lower : List ℕ → List ℕ = map to_ascii_lowercase in
    let n : ℕ = length word in
    let same : lower name ≡ lower (word ++ d ∷ ds) = (bytes_eq-Decides (lower name) (lower (word ++ d ∷ ds))).0 e in
    let front : lower (take n name) ≡ lower word = sym (take-map to_ascii_lowercase n name) ∙ (ap (take n) same ∙ (take-map to_ascii_lowercase n (word ++ d ∷ ds) ∙ ap lower (take-append_seam word (d ∷ ds)))) in
    let behind : lower (drop n name) ≡ to_ascii_lowercase d ∷ lower ds = sym (drop-map to_ascii_lowercase n name) ∙ (ap (drop n) same ∙ (drop-map to_ascii_lowercase n (word ++ d ∷ ds) ∙ ap lower (drop-append_seam word (d ∷ ds)))) in
    and_from _ _ ((bytes_eq-Decides (lower (take n name)) (lower word)).1 front) (first_digit (drop n name) (lower ds) d h behind)

never_both : (b : Bool) → b ≡ true → not b ≡ true → ⊥
never_both true h k = cc
never_both false h k = cc

none_named : (word ds : List ℕ) (d : ℕ) (es : List Entry) → is_in_range 48 57 d ≡ true → none_numbered word es ≡ true → find (has_name (word ++ d ∷ ds)) es ≡ None
none_named word ds d [] h a = refl
none_named word ds d (e ∷ es) h a =
    let parts = and_parts (not (is_numbered word e.1)) (none_numbered word es) a in
    let other : has_name (word ++ d ∷ ds) e ≡ false =
    false_from_ne_true (has_name (word ++ d ∷ ds) e) (λ same. never_both (is_numbered word e.1) (numbered_so e.1 word ds d h same) parts.0) in
    rw other (none_named word ds d es h parts.1)

same_word : (word : List ℕ) → same_letters word word ≡ true
same_word word = (bytes_eq-Decides (map to_ascii_lowercase word) (map to_ascii_lowercase word)).1 refl

digits_behind : (word ds : List ℕ) (n : ℕ) → number_of_digits ds ≡ Some n → number_behind word (word ++ ds) ≡ Some n
digits_behind word ds n h =
    let long : nat_lt (length (word ++ ds)) (length word) ≡ false = (let k = length-append word ds in grind (arith, nat_tests)) in
    rw (long, take-append_seam word ds, same_word word, drop-append_seam word ds) h

-- the digits have a first one
unnamed_back : (r : Registry) (n : ℕ) (ds : List ℕ) → ds ≡ decimal n → n < 65536 → code_named r (word_of r ++ ds) ≡ Some n
unnamed_back r n [] e small = absurd (let k = decimal_nonempty n (omega arith) in omega (arith, ap length e, k))
unnamed_back r n (d ∷ ds) e small =
    let wide : n < 2 ^ 64 = omega arith in
    let digits : AreDigits (d ∷ ds) = subst AreDigits (sym e) (digits_decimal own n wide) in
    let first = and_parts (is_in_range 48 57 d) (list_all (is_in_range 48 57) ds) digits in
    rw (none_named (word_of r) ds d (entries r) first.0 (are_tables r).apart) (digits_behind (word_of r) (d ∷ ds) n (ap number_of_digits e ∙ digits_back n small))

text_back : (r : Registry) (n : ℕ) (o : Option Entry) → find (has_number n) (entries r) ≡ o → n < 65536 → code_named r (name_or (word_of r ++ decimal n) o) ≡ Some n
text_back r n (Some e) h small = named_back r n e h
text_back r n None h small = unnamed_back r n (decimal n) refl small

pub codes_back : (r : Registry) (n : ℕ) → n < 65536 → code_named r (code_text r n) ≡ Some n
codes_back r n small = text_back r n (find (has_number n) (entries r)) refl small
