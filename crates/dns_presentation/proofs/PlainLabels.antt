-- A name of one label whose octets stand for themselves.
use Rattle.std.proofs.Common.{◌≡◌, ℕ, zero, suc, ◌+◌, ◌<◌, ◌≤◌, List, [], ◌∷◌, ◌++◌, Bool, true, false, Some, None, Ok, Err, length, refl, ap, sym, ◌∙◌, arith, length-append}
use Rattle.std.specs.Prelude.{◌&&◌, ◌||◌, not, nat_eq, nat_lt, if◌then◌else◌, Result}
use Rattle.std.specs.Int.{is_in_range}
use Rattle.std.specs.List.{list_all}
use Rattle.std.proofs.lemmas.Bool.{and_parts, le-ltb, or_parts}
use Rattle.std.proofs.lemmas.Bool.Decides.{nat_tests}
use Rattle.dns_name.specs.FromText.{before_octets, by_label, ends_label, first_label, first_octet, is_dot, label_octets, labels_up_to, octets_up_to, text_labels, text_name}
use Rattle.dns_name.specs.Labels.{AreLabels, IsName, spell}
use Rattle.dns_name.specs.Names.{name_under, read_whole, uncompressed}
use Rattle.dns_name.specs.declared.error.ParseError.{ParseError}
use Rattle.dns_name.proofs.FromTexts.{fits, label_ended, one_more}
use Rattle.dns_name.proofs.Spelt.{spelt_alone}
use Rattle.dns_entries.specs.Reading.{◌>>=◌}
use Rattle.dns_presentation.specs.Names.{absolute_after, from_text, is_absolute, is_plain_label, stands_alone, under}

record IsAlone (c : ℕ) : Type 0 where
  range : is_in_range 33 126 c ≡ true
  dot : nat_eq c 46 ≡ false
  backslash : nat_eq c 92 ≡ false

was_not : (b : Bool) → not b ≡ true → b ≡ false
was_not true h = sym h
was_not false h = refl

is_alone : (c : ℕ) → stands_alone c ≡ true → IsAlone c
is_alone c h =
    let p = and_parts (is_in_range 33 126 c) (not (nat_eq c 46 || nat_eq c 92)) h in
    let q = or_parts (nat_eq c 46) (nat_eq c 92) (was_not _ p.1) in
    record { range = p.0; dot = q.0; backslash = q.1 }

front : (c : ℕ) (w : List ℕ) → IsAlone c → first_octet (c ∷ w) ≡ Ok (c, w)
front c w h = rw (h.backslash, h.range) refl

octets_back : (w : List ℕ) (k : ℕ) → list_all stands_alone w ≡ true → length w ≤ k → octets_up_to k w ≡ Ok (w, [])
octets_back [] k h n = label_ended k [] refl
octets_back (c ∷ w) zero h n = absurd (omega arith)
octets_back (c ∷ w) (suc k) h n =
    let p = and_parts (stands_alone c) (list_all stands_alone w) h in
    let a = is_alone c p.0 in
    one_more k c (c ∷ w) w a.dot (front c w a) ∙ ap (before_octets (c ∷ [])) (octets_back w k p.1 (omega arith))

begins : (w : List ℕ) → list_all stands_alone w ≡ true → 0 < length w → ends_label w ≡ false
begins [] h n = absurd (omega arith)
begins (c ∷ w) h n = let a = is_alone c (and_parts (stands_alone c) (list_all stands_alone w) h).0 in a.dot

no_dot : (w : List ℕ) → ends_label w ≡ false → is_dot w ≡ false
no_dot [] h = cc
no_dot (c ∷ []) h = h
no_dot (c ∷ d ∷ w) h = refl

label_back : (w : List ℕ) → list_all stands_alone w ≡ true → 0 < length w → length w < 64 → first_label 0 w ≡ Ok (w, [])
unfolding label_octets
label_back w h s f = fits 0 w w [] (octets_back w 63 h (omega arith)) s (omega arith)

reads : (w : List ℕ) → list_all stands_alone w ≡ true → 0 < length w → length w < 64 → text_name w ≡ Ok (w ∷ [])
unfolding text_labels
reads w h s f = rw (no_dot w (begins w h s)) (ap (by_label (labels_up_to 127) 0) (label_back w h s f))

relative : (w : List ℕ) → list_all stands_alone w ≡ true → absolute_after false false w ≡ false
relative [] h = refl
relative (c ∷ w) h =
    let p = and_parts (stands_alone c) (list_all stands_alone w) h in
    let a = is_alone c p.0 in
    rw (a.backslash, a.dot) (relative w p.1)

record IsPlain (w : List ℕ) : Type 0 where
  some : 0 < length w
  few : length w < 64
  alone : list_all stands_alone w ≡ true

is_plain : (w : List ℕ) → is_plain_label w ≡ true → IsPlain w
is_plain w h =
    let p = and_parts (nat_lt 0 (length w) && nat_lt (length w) 64) (list_all stands_alone w) h in
    let q = and_parts (nat_lt 0 (length w)) (nat_lt (length w) 64) p.0 in
    let a = q.0 in
    let b = q.1 in
    record { some = grind (arith, nat_tests); few = grind (arith, nat_tests); alone = p.1 }

-- it stands below the origin
pub plain_name : (w : List ℕ) (origin : List (List ℕ)) → is_plain_label w ≡ true → (from_text (text_name w) >>= λ ls. if is_absolute w then Ok ls else under origin ls) ≡ under origin (w ∷ [])
plain_name w origin h =
    let p = is_plain w h in
    rw (reads w p.alone p.some p.few, relative w p.alone) refl

-- ---- its octets

label_name : (l : List ℕ) (origin : List (List ℕ)) → IsName origin → 0 < length l → length l < 64 → length l + length (spell origin) ≤ 254 → IsName (l ∷ origin)
label_name l origin n s f h = record { labels = (s, f, n.labels); room = omega (arith, length-append l (spell origin)) }

same_ok : (n m : List (List ℕ)) (u : Result (List (List ℕ)) ParseError) → u ≡ Ok n → u ≡ Ok m → n ≡ m
same_ok n m u h k = cc

label_octets_are : (l o behind : List ℕ) (origin : List (List ℕ)) → behind ≡ spell origin → o ≡ length l ∷ (l ++ behind) → o ≡ spell (l ∷ origin)
label_octets_are l o behind origin b e = e ∙ ap (λ (t : List ℕ). length l ∷ (l ++ t)) b

label_fits : (l o behind : List ℕ) (origin : List (List ℕ)) → IsName origin → behind ≡ spell origin → o ≡ length l ∷ (l ++ behind) → 0 < length l → length l < 64 → length l + length behind ≤ 254 → uncompressed o ≡ Ok (l ∷ origin)
label_fits l o behind origin n b e s f h =
    let whole = label_octets_are l o behind origin b e in
    let few : length l + length (spell origin) ≤ 254 = omega (arith, ap length b) in
    rw whole (ap (read_whole (spell (l ∷ origin))) (spelt_alone (l ∷ origin) (label_name l origin n s f few)) ∙ grind (arith, nat_tests))

under_fits : (l : List ℕ) (origin : List (List ℕ)) → length l + length (spell origin) ≤ 254 → under origin (l ∷ []) ≡ Ok (l ∷ origin)
under_fits l origin h = rw (le-ltb 255 (length (spell (l ∷ origin))) (omega (arith, length-append l (spell origin)))) refl

-- the name that its octets are stands below the origin
pub label_named : (l o behind : List ℕ) (origin n : List (List ℕ)) → IsName origin → behind ≡ spell origin → o ≡ length l ∷ (l ++ behind) → 0 < length l → length l < 64 → length l + length behind ≤ 254 → Ok n ≡ uncompressed o
    → under origin (l ∷ []) ≡ Ok n
label_named l o behind origin n m b e s f h read =
    under_fits l origin (omega (arith, ap length b)) ∙ ap (λ (x : List (List ℕ)). Ok x) (same_ok (l ∷ origin) n (uncompressed o) (label_fits l o behind origin m b e s f h) (sym read))

pub label_reads : (l o behind : List ℕ) (origin : List (List ℕ)) (x : ParseError) → IsName origin → behind ≡ spell origin → o ≡ length l ∷ (l ++ behind) → 0 < length l → length l < 64 → length l + length behind ≤ 254 → Err x ≡ uncompressed o → ⊥
label_reads l o behind origin x m b e s f h read = let bad : Err x ≡ Ok (l ∷ origin) = read ∙ label_fits l o behind origin m b e s f h in cc bad
