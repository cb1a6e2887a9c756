-- The text of a name reads as that name.
use Rattle.std.proofs.Common.{◌⊎◌, ◌≡◌, ℕ, zero, suc, ◌+◌, ◌*◌, ◌/◌, ◌%◌, ◌≤◌, ◌<◌, List, [], ◌∷◌, ◌++◌, length, get_or, Ok, refl, ap, subst, ◌∙◌, arith, true, false, append_assoc, length-append}
use Rattle.std.specs.Prelude.{nat_lt, if◌then◌else◌, encode_utf8}
use Rattle.std.proofs.lemmas.Bool.Decides.{nat_tests}
use Rattle.std.proofs.lemmas.Fmt.{decimal_digit}
use Rattle.std.proofs.lemmas.Str.{encode_ascii}
use Rattle.dns_name.specs.Labels.{spell, AreLabels, IsName}
use Rattle.dns_name.specs.NameText.{is_quoted, digits_text, octet_text, label_text, more_text, name_text}
use Rattle.dns_name.specs.FromText.{first_octet, ends_label, before_octets, octets_up_to, label_octets, first_label, by_label, before_labels, labels_up_to, text_labels, is_dot, text_name}
use Rattle.dns_name.proofs.FromTexts.{one_more, label_ended, fits}
use Rattle.dns_name.proofs.FromNames.{label_on}
use Rattle.dns_name.proofs.Named.{twice}

-- a text begins with this octet of a label
abbrev BeginsWith : ℕ → List ℕ → List ℕ → Type 0
BeginsWith b more t = (first_octet (t ++ more) ≡ Ok (b, more)) × (ends_label (t ++ more) ≡ false)

digits_front : (h t o : ℕ) (more : List ℕ) → h < 10 → t < 10 → o < 10 → 100 * h + 10 * t + o < 256 → first_octet (92 ∷ (48 + h) ∷ (48 + t) ∷ (48 + o) ∷ more) ≡ Ok (100 * h + 10 * t + o, more)
digits_front h t o more a b c d = grind (arith, nat_tests)

by_digits : (b : ℕ) (more : List ℕ) → b < 256 → BeginsWith b more (digits_text b)
by_digits b more h =
    let d : digits_text b ++ more ≡ 92 ∷ (48 + b / 100) ∷ (48 + b / 10 % 10) ∷ (48 + b % 10) ∷ more =
    rw (decimal_digit (b / 100) (omega arith), decimal_digit (b / 10 % 10) (omega arith), decimal_digit (b % 10) (omega arith)) refl in
    let n : 100 * (b / 100) + 10 * (b / 10 % 10) + b % 10 ≡ b = omega arith in
    (ap first_octet d ∙ (digits_front (b / 100) (b / 10 % 10) (b % 10) more (omega arith) (omega arith) (omega arith) (omega arith) ∙ ap (λ x. Ok (x, more)) n), ap ends_label d)

by_backslash : (b : ℕ) (more : List ℕ) → is_quoted b ≡ true → BeginsWith b more (92 ∷ encode_utf8 b)
by_backslash b more h =
    let s : (b < 48) ⊎ (b ≡ 92) = grind (arith, nat_tests) in
    let e : encode_utf8 b ≡ b ∷ [] = encode_ascii b (grind (arith, nat_tests)) in
    rw e (grind (arith, nat_tests), refl)

by_itself : (b : ℕ) (more : List ℕ) → is_quoted b ≡ false → 32 < b → b < 127 → BeginsWith b more (encode_utf8 b)
by_itself b more h k j =
    let e : encode_utf8 b ≡ b ∷ [] = encode_ascii b (omega arith) in
    rw e (grind (arith, nat_tests), grind (arith, nat_tests))

octet_back : (b : ℕ) (more : List ℕ) → b < 256 → BeginsWith b more (octet_text b)
octet_back b more h =
    elim (is_quoted b) as (λ q. is_quoted b ≡ q → BeginsWith b more (if q then 92 ∷ encode_utf8 b else (if nat_lt 32 b then (if nat_lt b 127 then encode_utf8 b else digits_text b) else digits_text b))) [
      | true ↦ λ q. by_backslash b more q
      | false ↦ λ q. elim (nat_lt 32 b) as (λ x. nat_lt 32 b ≡ x → BeginsWith b more (if x then (if nat_lt b 127 then encode_utf8 b else digits_text b) else digits_text b)) [
        | true ↦ λ x. elim (nat_lt b 127) as (λ y. nat_lt b 127 ≡ y → BeginsWith b more (if y then encode_utf8 b else digits_text b))
            [ true ↦ λ y. by_itself b more q (grind (arith, nat_tests)) (grind (arith, nat_tests)) | false ↦ λ y. by_digits b more h ] refl
        | false ↦ λ x. by_digits b more h
      ] refl
    ] refl

abbrev AreOctets : List ℕ → Type 0
AreOctets [] = Unit {0}
AreOctets (b ∷ l) = (b < 256) × AreOctets l

abbrev HoldOctets : List (List ℕ) → Type 0
HoldOctets [] = Unit {0}
HoldOctets (l ∷ ls) = AreOctets l × HoldOctets ls

label_back : (l : List ℕ) (k : ℕ) (more : List ℕ) → AreOctets l → ends_label more ≡ true → length l ≤ k → octets_up_to k (label_text l ++ more) ≡ Ok (l, more)
label_back [] k more a e h = label_ended k more e
label_back (b ∷ l) zero more a e h = absurd (omega arith)
label_back (b ∷ l) (suc k) more a e h =
    let s : label_text (b ∷ l) ++ more ≡ octet_text b ++ (label_text l ++ more) = append_assoc (octet_text b) (label_text l) more in
    let f = octet_back b (label_text l ++ more) a.0 in
    ap (octets_up_to (suc k)) s ∙ (one_more k b (octet_text b ++ (label_text l ++ more)) (label_text l ++ more) f.1 f.0 ∙ ap (before_octets (b ∷ [])) (label_back l k more a.1 e (omega arith)))

-- the label in front of what is left of a name's text
first_back : (l : List ℕ) (size : ℕ) (more : List ℕ) → AreOctets l → ends_label more ≡ true → 0 < length l → length l < 64 → size + length l + 2 ≤ 255 → first_label size (label_text l ++ more) ≡ Ok (l, more)
unfolding label_octets
first_back l size more a e s f h = fits size (label_text l ++ more) l more (label_back l 63 more a e (omega arith)) s h

more_ends : (ls : List (List ℕ)) → ends_label (more_text ls) ≡ true
more_ends [] = refl
more_ends (l ∷ ls) = refl

begun_text : (t : List ℕ) (p : ℕ × List ℕ) → first_octet t ≡ Ok p → 0 < length t
begun_text [] p h = absurd (cc)
begun_text (x ∷ t) p h = omega arith

label_begins : (l more : List ℕ) → AreOctets l → 0 < length l → (0 < length (label_text l ++ more)) × (ends_label (label_text l ++ more) ≡ false)
label_begins [] more a h = absurd (omega arith)
label_begins (b ∷ l) more a h =
    let s : label_text (b ∷ l) ++ more ≡ octet_text b ++ (label_text l ++ more) = append_assoc (octet_text b) (label_text l) more in
    let f = octet_back b (label_text l ++ more) a.0 in
    (begun_text (label_text (b ∷ l) ++ more) (b, label_text l ++ more) (ap first_octet s ∙ f.0), ap ends_label s ∙ f.1)

names_back : (ls : List (List ℕ)) (l : List ℕ) (k size : ℕ) → HoldOctets (l ∷ ls) → AreLabels (l ∷ ls) → size + length (spell (l ∷ ls)) ≤ 255 → length ls < k → labels_up_to k size (label_text l ++ more_text ls) ≡ Ok (l ∷ ls)
names_back ls l zero size a n r h = absurd (omega arith)
names_back [] l (suc k) size a n r h =
    ap (by_label (labels_up_to k) size) (first_back l size [] a.0 refl n.0 n.1 (omega (arith, length-append l (spell []))))
names_back (m ∷ ms) l (suc k) size a n r h =
    let x = label_text m ++ more_text ms in
    let e = length-append l (spell (m ∷ ms)) in
    let f = first_back l size (46 ∷ x) a.0 refl n.0 n.1 (omega (arith, length-append m (spell ms))) in
    ap (by_label (labels_up_to k) size) f ∙ (label_on (labels_up_to k) size l (46 ∷ x) (omega (arith, (label_begins m (more_text ms) a.1.0 n.2.0).0)) ∙ ap (before_labels l) (names_back ms m k (size + length l + 1) a.1 n.2 (omega arith) (omega arith)))

not_dot : (t : List ℕ) → ends_label t ≡ false → is_dot t ≡ false
not_dot [] h = absurd (cc)
not_dot (x ∷ []) h = h
not_dot (x ∷ y ∷ t) h = refl

text_back : (ls : List (List ℕ)) → IsName ls → HoldOctets ls → text_name (name_text ls) ≡ Ok ls
unfolding text_labels
text_back [] n a = refl
text_back (l ∷ ls) n a =
    let d = not_dot (label_text l ++ more_text ls) (label_begins l (more_text ls) a.0 n.labels.0).1 in
    rw d (names_back ls l 128 0 a n.labels n.room (omega (arith, twice (l ∷ ls) n.labels, n.room)))

split : (l s : List ℕ) → AreOctets (l ++ s) → AreOctets l × AreOctets s
split [] s a = (tt, a)
split (b ∷ l) s a = let r = split l s a.1 in ((a.0, r.0), r.1)

octets_of : (l : List ℕ) → ((k : ℕ) → get_or l k 0 < 256) → AreOctets l
octets_of [] h = tt
octets_of (b ∷ l) h = (h zero, octets_of l (λ k. h (suc k)))

spelt_octets : (ls : List (List ℕ)) → AreOctets (spell ls) → HoldOctets ls
spelt_octets [] a = tt
spelt_octets (l ∷ ls) a = let r = split l (spell ls) a.1 in (r.0, spelt_octets ls r.1)

-- octets that are a name's
pub octets_back : (ls : List (List ℕ)) (o : List ℕ) → o ≡ spell ls → IsName ls → ((k : ℕ) → get_or o k 0 < 256) → text_name (name_text ls) ≡ Ok ls
octets_back ls o e n h = text_back ls n (spelt_octets ls (subst AreOctets e (octets_of o h)))
