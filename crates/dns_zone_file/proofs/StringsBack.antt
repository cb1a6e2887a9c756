-- Strings that are written in quotes read as the data that they are.
use Rattle.std.proofs.Common.{◌≡◌, ℕ, zero, suc, ◌+◌, ◌-◌, ◌*◌, ◌/◌, ◌%◌, ◌≤◌, ◌<◌, inr, List, [], ◌∷◌, ◌++◌, length, true, false, Option, Some, Ok, refl, ap, subst, sym, ◌∙◌, arith, append-nil, append_assoc, length-append}
use Rattle.std.specs.Prelude.{Bool, nat_eq, nat_lt, if◌then◌else◌}
use Rattle.std.specs.Char.{is_ascii_digit}
use Rattle.std.specs.List.{AllByRecursion, flat_map}
use Rattle.std.proofs.lemmas.Bool.{le-ltb, lt-ltb}
use Rattle.std.proofs.lemmas.Bool.Decides.{nat_tests}
use Rattle.hex.specs.Hex.{IsBytes}
use Rattle.dns_entries.specs.Reading.{LineRead, ◌>>=◌, some_or}
use Rattle.dns_entries.specs.declared.reason.EntryReason.TheVariants.{Escape as NotEscape}
use Rattle.dns_presentation.specs.Fields.{behind_length, counted_string, data_of, more, strings_after}
use Rattle.dns_word_values.specs.Values.{string_octets, unescaped}
use Rattle.dns_record_text.specs.RecordText.{TextWord, end_strings, octet_words, quoted_octet, quoted_word, stands_in_quotes, string_words, text_words}
use Rattle.dns_zone_file.specs.Lines.{AreOctets, IsWord, goes_quoted, word_on, words_on}

-- ---- an octet in quotes

-- what reads a string octet by octet, if no escape is open
record IsReader {E : Type 0} (clear : E) (read : E → List ℕ → List ℕ → Option (List ℕ)) : Type 0 where
  ends : (o : List ℕ) → read clear o [] ≡ Some o
  plain : (o cs : List ℕ) (c : ℕ) → nat_eq c 92 ≡ false → read clear o (c ∷ cs) ≡ read clear (o ++ c ∷ []) cs
  digits : (o cs : List ℕ) (x y z : ℕ) → is_ascii_digit x ≡ true → is_ascii_digit y ≡ true → is_ascii_digit z ≡ true → nat_lt (10 * (10 * (x - 48) + (y - 48)) + (z - 48)) 256 ≡ true
      → read clear o (92 ∷ x ∷ y ∷ z ∷ cs) ≡ read clear (o ++ (10 * (10 * (x - 48) + (y - 48)) + (z - 48)) ∷ []) cs

-- what a digit is, and isn't
record IsInside (c : ℕ) : Type 0 where
  digit : is_ascii_digit c ≡ true
  backslash : nat_eq c 92 ≡ false
  quote : nat_eq c 34 ≡ false
  lf : nat_eq c 10 ≡ false

inside : (c : ℕ) → 48 ≤ c → c ≤ 57 → IsInside c
inside c a b = record { digit = grind (arith, nat_tests); backslash = grind (arith, nat_tests); quote = grind (arith, nat_tests); lf = grind (arith, nat_tests) }

-- an octet that stands for itself
record IsPlain (c : ℕ) : Type 0 where
  backslash : nat_eq c 92 ≡ false
  quote : nat_eq c 34 ≡ false
  lf : nat_eq c 10 ≡ false

plain_goes : (c : ℕ) (more : List ℕ) → IsPlain c → goes_quoted false (c ∷ more) ≡ goes_quoted false more
plain_goes c more h = rw (h.backslash, h.quote, h.lf) refl

digits_go : (x y z : ℕ) (more : List ℕ) → IsInside x → IsInside y → IsInside z → goes_quoted false (92 ∷ x ∷ y ∷ z ∷ more) ≡ goes_quoted false more
digits_go x y z more a b c = rw (a.lf, b.backslash, b.quote, b.lf, c.backslash, c.quote, c.lf) refl

digits_octet : {E : Type 0} (clear : E) (read : E → List ℕ → List ℕ → Option (List ℕ)) → IsReader clear read → (c : ℕ) → c < 256 → (o more : List ℕ)
    → read clear o (92 ∷ (48 + c / 100) ∷ (48 + c / 10 % 10) ∷ (48 + c % 10) ∷ more) ≡ read clear (o ++ c ∷ []) more
digits_octet clear read is c h o more =
    let n : 10 * (10 * (48 + c / 100 - 48) + (48 + c / 10 % 10 - 48)) + (48 + c % 10 - 48) ≡ c = omega arith in
    let small : nat_lt (10 * (10 * (48 + c / 100 - 48) + (48 + c / 10 % 10 - 48)) + (48 + c % 10 - 48)) 256 ≡ true = lt-ltb (10 * (10 * (48 + c / 100 - 48) + (48 + c / 10 % 10 - 48)) + (48 + c % 10 - 48)) 256 (omega arith) in
    let x = inside (48 + c / 100) (omega arith) (omega arith) in
    let y = inside (48 + c / 10 % 10) (omega arith) (omega arith) in
    let z = inside (48 + c % 10) (omega arith) (omega arith) in
    is.digits o more (48 + c / 100) (48 + c / 10 % 10) (48 + c % 10) x.digit y.digit z.digit small ∙ ap (λ (v : ℕ). read clear (o ++ v ∷ []) more) n

plain_backslash : (c : ℕ) → stands_in_quotes c ≡ true → IsPlain c
plain_backslash c h = record { backslash = grind (arith, nat_tests); quote = grind (arith, nat_tests); lf = grind (arith, nat_tests) }

octet_read : {E : Type 0} (clear : E) (read : E → List ℕ → List ℕ → Option (List ℕ)) → IsReader clear read → (c : ℕ) → c < 256 → (o more : List ℕ) → read clear o (quoted_octet c ++ more) ≡ read clear (o ++ c ∷ []) more
octet_read clear read is c h o more =
    elim (stands_in_quotes c) as (λ q. stands_in_quotes c ≡ q → read clear o ((if q then c ∷ [] else 92 ∷ (48 + c / 100) ∷ (48 + c / 10 % 10) ∷ (48 + c % 10) ∷ []) ++ more) ≡ read clear (o ++ c ∷ []) more)
    [ true ↦ λ q. is.plain o more c (plain_backslash c q).backslash | false ↦ λ q. digits_octet clear read is c h o more ] refl

octet_goes : (c : ℕ) → c < 256 → (more : List ℕ) → goes_quoted false (quoted_octet c ++ more) ≡ goes_quoted false more
octet_goes c h more =
    let x = inside (48 + c / 100) (omega arith) (omega arith) in
    let y = inside (48 + c / 10 % 10) (omega arith) (omega arith) in
    let z = inside (48 + c % 10) (omega arith) (omega arith) in
    elim (stands_in_quotes c) as (λ q. stands_in_quotes c ≡ q → goes_quoted false ((if q then c ∷ [] else 92 ∷ (48 + c / 100) ∷ (48 + c / 10 % 10) ∷ (48 + c % 10) ∷ []) ++ more) ≡ goes_quoted false more)
    [ true ↦ λ q. plain_goes c more (plain_backslash c q) | false ↦ λ q. digits_go (48 + c / 100) (48 + c / 10 % 10) (48 + c % 10) more x y z ] refl

-- ---- a string

abbrev inside_text : List ℕ → List ℕ
inside_text s = flat_map quoted_octet s

string_read : {E : Type 0} (clear : E) (read : E → List ℕ → List ℕ → Option (List ℕ)) → IsReader clear read → (s o : List ℕ) → AreOctets s → read clear o (inside_text s) ≡ Some (o ++ s)
string_read clear read is [] o a = is.ends o ∙ ap (λ (x : List ℕ). Some x) (sym (append-nil o))
string_read clear read is (c ∷ s) o a =
    octet_read clear read is c a.0 o (inside_text s) ∙ (string_read clear read is s (o ++ c ∷ []) a.1 ∙ ap (λ (x : List ℕ). Some x) (append_assoc o (c ∷ []) s))

spelt : (s : List ℕ) → AreOctets s → string_octets (inside_text s) ≡ Some s
spelt s a = string_read _ unescaped (record { ends = λ o. refl; plain = λ o cs c h. rw h refl; digits = λ o cs x y z h k l m. rw (h, k, l, m) refl }) s [] a

string_goes : (s : List ℕ) → AreOctets s → goes_quoted false (inside_text s) ≡ true
string_goes [] a = refl
string_goes (c ∷ s) a = octet_goes c a.0 (inside_text s) ∙ string_goes s a.1

string_is_word : (s : List ℕ) → AreOctets s → IsWord (quoted_word (inside_text s))
string_is_word s a = inr (record { quoted = refl; goes = string_goes s a })

length_fits : (line : ℕ) (s : List ℕ) → length s < 256 → behind_length line s ≡ Ok (length s ∷ s)
length_fits line s h = rw (le-ltb 255 (length s) (omega arith)) refl

counted_back : (line : ℕ) (s : List ℕ) → AreOctets s → length s < 256 → counted_string (word_on line (quoted_word (inside_text s))) ≡ Ok (length s ∷ s)
counted_back line s a h = ap (λ (r : Option (List ℕ)). some_or line NotEscape r >>= behind_length line) (spelt s a) ∙ length_fits line s h

-- one octet more
text_more : (s : List ℕ) (c : ℕ) → inside_text (s ++ c ∷ []) ≡ inside_text s ++ quoted_octet c
text_more [] c = append-nil (quoted_octet c)
text_more (b ∷ s) c = ap (λ t. quoted_octet b ++ t) (text_more s c) ∙ sym (append_assoc (quoted_octet b) (inside_text s) (quoted_octet c))

octets_more : (s : List ℕ) (c : ℕ) → AreOctets s → c < 256 → AreOctets (s ++ c ∷ [])
octets_more [] c a h = (h, tt)
octets_more (b ∷ s) c a h = (a.0, octets_more s c a.1 h)

-- ---- strings

-- the words of strings of which the first has n octets: those of s, and `left` to come
abbrev Come : List ℕ → Type 0
Come cs = (left n : ℕ) (s octets : List ℕ) (line : ℕ) → AreOctets s → n < 256 → left + length s ≡ n → end_strings left cs ≡ true
    → strings_after octets (words_on line (string_words left (inside_text s) cs)) ≡ Ok (octets ++ (n ∷ (s ++ cs)))

one_string : (line n : ℕ) (s octets : List ℕ) (ws : List TextWord) → AreOctets s → n < 256 → length s ≡ n
    → strings_after octets (words_on line (quoted_word (inside_text s) ∷ ws)) ≡ strings_after (octets ++ (n ∷ s)) (words_on line ws)
one_string line n s octets ws a h e =
    ap (λ (r : LineRead (List ℕ)). more octets r >>= λ o. strings_after o (words_on line ws)) (counted_back line s a (omega arith)) ∙ ap (λ (k : ℕ). strings_after (octets ++ (k ∷ s)) (words_on line ws)) e

by_left : (q : Bool) (c : ℕ) (cs : List ℕ) → Come cs → c < 256 → (left n : ℕ) (s octets : List ℕ) (line : ℕ) → nat_eq left 0 ≡ q → AreOctets s → n < 256 → left + length s ≡ n → end_strings (if q then c else left - 1) cs ≡ true
    → strings_after octets (words_on line (if q then quoted_word (inside_text s) ∷ string_words c [] cs else string_words (left - 1) (inside_text s ++ quoted_octet c) cs)) ≡ Ok (octets ++ (n ∷ (s ++ c ∷ cs)))
by_left true c cs go b left n s octets line e a h m g =
    let none : left ≡ 0 = grind (arith, nat_tests) in
    one_string line n s octets (string_words c [] cs) a h (omega arith)
    ∙ (go c c [] (octets ++ (n ∷ s)) line tt b (omega arith) g ∙ ap (λ (o : List ℕ). Ok o) (append_assoc octets (n ∷ s) (c ∷ cs)))
by_left false c cs go b left n s octets line e a h m g =
    let some : 0 < left = grind (arith, nat_tests) in
    let total : left - 1 + length (s ++ c ∷ []) ≡ n = omega (arith, length-append s (c ∷ [])) in
    ap (λ (w : List ℕ). strings_after octets (words_on line (string_words (left - 1) w cs))) (sym (text_more s c))
    ∙ (go (left - 1) n (s ++ c ∷ []) octets line (octets_more s c a b) h total g ∙ ap (λ (o : List ℕ). Ok (octets ++ (n ∷ o))) (append_assoc s (c ∷ []) cs))

come : (cs : List ℕ) → AreOctets cs → Come cs
come [] b left n s octets line a h m g =
    let none : left ≡ 0 = grind (arith, nat_tests) in
    one_string line n s octets [] a h (omega arith) ∙ ap (λ (o : List ℕ). Ok (octets ++ (n ∷ o))) (sym (append-nil s))
come (c ∷ cs) b left n s octets line a h m g = by_left (nat_eq left 0) c cs (come cs b.1) b.0 left n s octets line refl a h m g

-- the first is in quotes
record Begins (ws : List TextWord) : Type 0 where
  inner : List ℕ
  others : List TextWord
  cells : ws ≡ quoted_word inner ∷ others

begins : (cs : List ℕ) (left : ℕ) (w : List ℕ) → Begins (string_words left w cs)
begins [] left w = record { inner = w; others = []; cells = refl }
begins (c ∷ cs) left w =
    elim (nat_eq left 0) as (λ q. Begins (if q then quoted_word w ∷ string_words c [] cs else string_words (left - 1) (w ++ quoted_octet c) cs))
    [ true ↦ record { inner = w; others = string_words c [] cs; cells = refl } | false ↦ begins cs (left - 1) (w ++ quoted_octet c) ]

octets_of_bytes : (l : List ℕ) → IsBytes l → AreOctets l
octets_of_bytes [] h = tt
octets_of_bytes (x ∷ l) h = (h 0, octets_of_bytes l (λ j. h (suc j)))

-- strings as data
quoted_data : (origin : List (List ℕ)) (at line : ℕ) (w : List ℕ) (ws : List TextWord) (o : List ℕ) → strings_after [] (words_on line (quoted_word w ∷ ws)) ≡ Ok o → data_of origin at line 16 (words_on line (quoted_word w ∷ ws)) ≡ Ok o
unfolding data_of
quoted_data origin at line w ws o h = rw h refl

data_as : (origin : List (List ℕ)) (at line : ℕ) (ws : List TextWord) (o : List ℕ) → Begins ws → strings_after [] (words_on line ws) ≡ Ok o → data_of origin at line 16 (words_on line ws) ≡ Ok o
data_as origin at line ws o b h =
    let cells = b.cells in
    let read : strings_after [] (words_on line (quoted_word b.inner ∷ b.others)) ≡ Ok o = rw cells at h in
    rw cells (quoted_data origin at line b.inner b.others o read)

pub text_back : (origin : List (List ℕ)) (at line : ℕ) (o : List ℕ) → IsBytes o → data_of origin at line 16 (words_on line (octet_words o)) ≡ Ok o → data_of origin at line 16 (words_on line (text_words o)) ≡ Ok o
text_back origin at line [] b h = h
text_back origin at line (n ∷ o) b h =
    let a = octets_of_bytes (n ∷ o) b in
    elim (end_strings n o) as (λ q. end_strings n o ≡ q → data_of origin at line 16 (words_on line (if q then string_words n [] o else octet_words (n ∷ o))) ≡ Ok (n ∷ o)) [
      | true ↦ λ e. data_as origin at line (string_words n [] o) (n ∷ o) (begins o n []) (come o a.1 n n [] [] line tt a.0 (omega arith) e)
      | false ↦ λ e. h
    ] refl

-- ---- they are words

abbrev AreStrings : List ℕ → Type 0
AreStrings cs = (left : ℕ) (s : List ℕ) → AreOctets s → AllByRecursion IsWord (string_words left (inside_text s) cs)

words_by_left : (q : Bool) (c : ℕ) (cs : List ℕ) → AreStrings cs → c < 256 → (left : ℕ) (s : List ℕ) → AreOctets s
    → AllByRecursion IsWord (if q then quoted_word (inside_text s) ∷ string_words c [] cs else string_words (left - 1) (inside_text s ++ quoted_octet c) cs)
words_by_left true c cs go b left s a = (string_is_word s a, go c [] tt)
words_by_left false c cs go b left s a =
    subst (λ (w : List ℕ). AllByRecursion IsWord (string_words (left - 1) w cs)) (text_more s c) (go (left - 1) (s ++ c ∷ []) (octets_more s c a b))

are_strings : (cs : List ℕ) → AreOctets cs → AreStrings cs
are_strings [] b left s a = (string_is_word s a, tt)
are_strings (c ∷ cs) b left s a = words_by_left (nat_eq left 0) c cs (are_strings cs b.1) b.0 left s a

pub text_words_are : (o : List ℕ) → IsBytes o → AllByRecursion IsWord (octet_words o) → AllByRecursion IsWord (text_words o)
text_words_are [] b h = h
text_words_are (n ∷ o) b h =
    let a = octets_of_bytes (n ∷ o) b in
    elim (end_strings n o) as (λ q. AllByRecursion IsWord (if q then string_words n [] o else octet_words (n ∷ o)))
    [ true ↦ are_strings o a.1 n [] tt | false ↦ h ]
