-- A name that is written reads as that name, wherever the origin is.
use Rattle.std.proofs.Common.{◌≡◌, ℕ, zero, suc, ◌+◌, ◌*◌, ◌/◌, ◌%◌, ◌≤◌, ◌<◌, List, [], ◌∷◌, ◌++◌, length, get_or, Ok, refl, ap, subst, sym, ◌∙◌, arith, true, false, append_assoc, append-nil, length-append}
use Rattle.std.specs.Prelude.{◌&&◌, ◌||◌, Bool, not, nat_eq, if◌then◌else◌, codes}
use Rattle.std.specs.Int.{is_in_range}
use Rattle.std.specs.Str.{bytes_eq}
use Rattle.std.proofs.lemmas.Bool.{false_from_ne_true}
use Rattle.std.proofs.lemmas.Bool.Decides.{nat_tests}
use Rattle.std.proofs.lemmas.Slice.Eq.{bytes_eq-Decides}
use Rattle.dns_name.specs.Labels.{spell, AreLabels, IsName}
use Rattle.dns_name.specs.FromText.{first_octet, ends_label, before_octets, octets_up_to, label_octets, first_label, by_label, before_labels, labels_up_to, text_labels, is_dot, text_name}
use Rattle.dns_name.proofs.FromTexts.{one_more, label_ended, fits}
use Rattle.dns_name.proofs.FromNames.{label_on}
use Rattle.dns_name.proofs.Named.{twice}
use Rattle.dns_entries.specs.Entries.{ends_word, is_blank}
use Rattle.dns_zone_file.specs.Lines.{AreOctets, HoldOctets, goes_on}
use Rattle.dns_presentation.specs.Names.{absolute_after, is_absolute, name_of}
use Rattle.dns_record_text.specs.RecordText.{absolute_text, escaped_label, escaped_labels, escaped_octet, stands}

-- ---- an octet

-- what an octet's text does in front of others, whatever reads it
record Stands (b : ℕ) (more t : List ℕ) : Type 0 where
  reads : first_octet (t ++ more) ≡ Ok (b, more)
  inside : ends_label (t ++ more) ≡ false
  scans : goes_on false (t ++ more) ≡ goes_on false more
  dotless : (dot : Bool) → absolute_after false dot (t ++ more) ≡ absolute_after false false more

digits_front : (h t o : ℕ) (more : List ℕ) → h < 10 → t < 10 → o < 10 → 100 * h + 10 * t + o < 256 → first_octet (92 ∷ (48 + h) ∷ (48 + t) ∷ (48 + o) ∷ more) ≡ Ok (100 * h + 10 * t + o, more)
digits_front h t o more a b c d = grind (arith, nat_tests)

-- a digit is no separator, no dot and no backslash
pub record IsDigit (c : ℕ) : Type 0 where
  pub lf : nat_eq c 10 ≡ false
  pub word : ends_word c ≡ false
  pub backslash : nat_eq c 92 ≡ false
  pub dot : nat_eq c 46 ≡ false

pub inner : (c : ℕ) → 48 ≤ c → c ≤ 57 → IsDigit c
inner c a b = record { lf = grind (arith, nat_tests); word = grind (arith, nat_tests); backslash = grind (arith, nat_tests); dot = grind (arith, nat_tests) }

digits_scan : (x y z : ℕ) (more : List ℕ) → IsDigit x → IsDigit y → IsDigit z → goes_on false (92 ∷ x ∷ y ∷ z ∷ more) ≡ goes_on false more
digits_scan x y z more h k l = rw (h.lf, k.backslash, k.word, l.backslash, l.word) refl

digits_dotless : (x y z : ℕ) (more : List ℕ) (dot : Bool) → IsDigit y → IsDigit z → absolute_after false dot (92 ∷ x ∷ y ∷ z ∷ more) ≡ absolute_after false false more
digits_dotless x y z more dot k l =
    ap (λ u. absolute_after (not u && nat_eq z 92) (not u && nat_eq z 46) more) k.backslash
    ∙ (ap (λ u. absolute_after u (nat_eq z 46) more) l.backslash ∙ ap (λ u. absolute_after false u more) l.dot)

by_digits : (b : ℕ) (more : List ℕ) → b < 256 → Stands b more (92 ∷ (48 + b / 100) ∷ (48 + b / 10 % 10) ∷ (48 + b % 10) ∷ [])
by_digits b more h =
    let n : 100 * (b / 100) + 10 * (b / 10 % 10) + b % 10 ≡ b = omega arith in
    let x = inner (48 + b / 100) (omega arith) (omega arith) in
    let y = inner (48 + b / 10 % 10) (omega arith) (omega arith) in
    let z = inner (48 + b % 10) (omega arith) (omega arith) in
    record {
      reads = digits_front (b / 100) (b / 10 % 10) (b % 10) more (omega arith) (omega arith) (omega arith) (omega arith) ∙ ap (λ x. Ok (x, more)) n;
      inside = refl;
      scans = digits_scan (48 + b / 100) (48 + b / 10 % 10) (48 + b % 10) more x y z;
      dotless = λ dot. digits_dotless (48 + b / 100) (48 + b / 10 % 10) (48 + b % 10) more dot y z;
    }

by_itself : (b : ℕ) (more : List ℕ) → stands b ≡ true → Stands b more (b ∷ [])
by_itself b more h =
    let low : 42 ≤ b = grind (arith, nat_tests) in
    let high : b ≤ 122 = grind (arith, nat_tests) in
    let backslash : nat_eq b 92 ≡ false = grind (arith, nat_tests) in
    let dot : nat_eq b 46 ≡ false = grind (arith, nat_tests) in
    let word : ends_word b ≡ false = grind (arith, nat_tests) in
    record {
      reads = grind (arith, nat_tests);
      inside = dot;
      scans = rw (backslash, word) refl;
      dotless = λ d. ap (λ u. absolute_after u (nat_eq b 46) more) backslash ∙ ap (λ u. absolute_after false u more) dot;
    }

octet_back : (b : ℕ) (more : List ℕ) → b < 256 → Stands b more (escaped_octet b)
octet_back b more h =
    elim (stands b) as (λ q. stands b ≡ q → Stands b more (if q then b ∷ [] else 92 ∷ (48 + b / 100) ∷ (48 + b / 10 % 10) ∷ (48 + b % 10) ∷ []))
    [ true ↦ λ q. by_itself b more q | false ↦ λ q. by_digits b more h ] refl

-- ---- a label

split_label : (b : ℕ) (l more : List ℕ) → escaped_label (b ∷ l) ++ more ≡ escaped_octet b ++ (escaped_label l ++ more)
split_label b l more = append_assoc (escaped_octet b) (escaped_label l) more

label_back : (l : List ℕ) (k : ℕ) (more : List ℕ) → AreOctets l → ends_label more ≡ true → length l ≤ k → octets_up_to k (escaped_label l ++ more) ≡ Ok (l, more)
label_back [] k more a e h = label_ended k more e
label_back (b ∷ l) zero more a e h = absurd (omega arith)
label_back (b ∷ l) (suc k) more a e h =
    let f = octet_back b (escaped_label l ++ more) a.0 in
    ap (octets_up_to (suc k)) (split_label b l more) ∙ (one_more k b (escaped_octet b ++ (escaped_label l ++ more)) (escaped_label l ++ more) f.inside f.reads ∙ ap (before_octets (b ∷ [])) (label_back l k more a.1 e (omega arith)))

first_back : (l : List ℕ) (size : ℕ) (more : List ℕ) → AreOctets l → ends_label more ≡ true → 0 < length l → length l < 64 → size + length l + 2 ≤ 255 → first_label size (escaped_label l ++ more) ≡ Ok (l, more)
unfolding label_octets
first_back l size more a e s f h = fits size (escaped_label l ++ more) l more (label_back l 63 more a e (omega arith)) s h

begun_text : (t : List ℕ) (p : ℕ × List ℕ) → first_octet t ≡ Ok p → 0 < length t
begun_text [] p h = (cc)
begun_text (x ∷ t) p h = omega arith

label_begins : (l more : List ℕ) → AreOctets l → 0 < length l → (0 < length (escaped_label l ++ more)) × (ends_label (escaped_label l ++ more) ≡ false)
label_begins [] more a h = absurd (omega arith)
label_begins (b ∷ l) more a h =
    let s = split_label b l more in
    let f = octet_back b (escaped_label l ++ more) a.0 in
    (begun_text (escaped_label (b ∷ l) ++ more) (b, escaped_label l ++ more) (ap first_octet s ∙ f.reads), ap ends_label s ∙ f.inside)

-- ---- a name

names_back : (ls : List (List ℕ)) (l : List ℕ) (k size : ℕ) → HoldOctets (l ∷ ls) → AreLabels (l ∷ ls) → size + length (spell (l ∷ ls)) ≤ 255 → length ls < k → labels_up_to k size (escaped_labels (l ∷ ls)) ≡ Ok (l ∷ ls)
names_back ls l zero size a n r h = absurd (omega arith)
names_back [] l (suc k) size a n r h =
    ap (by_label (labels_up_to k) size) (first_back l size (46 ∷ []) a.0 refl n.0 n.1 (omega (arith, length-append l (spell []))))
names_back (m ∷ ms) l (suc k) size a n r h =
    let x = escaped_labels (m ∷ ms) in
    let e = length-append l (spell (m ∷ ms)) in
    let f = first_back l size (46 ∷ x) a.0 refl n.0 n.1 (omega (arith, length-append m (spell ms))) in
    ap (by_label (labels_up_to k) size) f ∙ (label_on (labels_up_to k) size l (46 ∷ x) (omega (arith, (label_begins m (46 ∷ escaped_labels ms) a.1.0 n.2.0).0)) ∙ ap (before_labels l) (names_back ms m k (size + length l + 1) a.1 n.2 (omega arith) (omega arith)))

not_dot : (t : List ℕ) → ends_label t ≡ false → is_dot t ≡ false
not_dot [] h = (cc)
not_dot (x ∷ []) h = h
not_dot (x ∷ y ∷ t) h = refl

text_back : (ls : List (List ℕ)) → IsName ls → HoldOctets ls → text_name (absolute_text ls) ≡ Ok ls
unfolding text_labels
text_back [] n a = refl
text_back (l ∷ ls) n a =
    let d = not_dot (escaped_labels (l ∷ ls)) (label_begins l (46 ∷ escaped_labels ls) a.0 n.labels.0).1 in
    rw d (names_back ls l 128 0 a n.labels n.room (omega (arith, twice (l ∷ ls) n.labels, n.room)))

-- ---- its text is a word that ends in a dot

-- what holds of the text of labels in front of others
record Goes (more t : List ℕ) : Type 0 where
  scans : goes_on false (t ++ more) ≡ goes_on false more

label_goes : (l more : List ℕ) → AreOctets l → Goes more (escaped_label l)
label_goes [] more a = record { scans = refl }
label_goes (b ∷ l) more a =
    let f = octet_back b (escaped_label l ++ more) a.0 in
    let g = label_goes l more a.1 in
    record {
      scans = ap (goes_on false) (split_label b l more) ∙ (f.scans ∙ g.scans);
    }

label_dot : (l more : List ℕ) (dot : Bool) → AreOctets l → absolute_after false dot (escaped_label l ++ (46 ∷ more)) ≡ absolute_after false true more
label_dot [] more dot a = refl
label_dot (b ∷ l) more dot a =
    ap (absolute_after false dot) (split_label b l (46 ∷ more)) ∙ ((octet_back b (escaped_label l ++ (46 ∷ more)) a.0).dotless dot ∙ label_dot l more false a.1)

labels_absolute : (ls : List (List ℕ)) → HoldOctets ls → absolute_after false true (escaped_labels ls) ≡ true
labels_absolute [] a = refl
labels_absolute (l ∷ ls) a = label_dot l (escaped_labels ls) true a.0 ∙ labels_absolute ls a.1

labels_go : (ls : List (List ℕ)) → HoldOctets ls → Goes [] (escaped_labels ls)
labels_go [] a = record { scans = refl }
labels_go (l ∷ ls) a =
    let s : escaped_labels (l ∷ ls) ++ [] ≡ escaped_label l ++ (46 ∷ (escaped_labels ls ++ [])) = append_assoc (escaped_label l) (46 ∷ escaped_labels ls) [] in
    let f = label_goes l (46 ∷ (escaped_labels ls ++ [])) a.0 in
    let g = labels_go ls a.1 in
    record {
      scans = ap (goes_on false) s ∙ (f.scans ∙ g.scans);
    }

-- the text of a name: it is a word, it reads as the name, and it ends in a dot
pub record NameBack (ls : List (List ℕ)) (w : List ℕ) : Type 0 where
  pub reads : text_name w ≡ Ok ls
  pub absolute : is_absolute w ≡ true
  pub goes : goes_on false w ≡ true

labels_from_false : (l : List ℕ) (ls : List (List ℕ)) → HoldOctets (l ∷ ls) → is_absolute (escaped_labels (l ∷ ls)) ≡ true
labels_from_false l ls a = label_dot l (escaped_labels ls) false a.0 ∙ labels_absolute ls a.1

pub name_back : (ls : List (List ℕ)) → IsName ls → HoldOctets ls → NameBack ls (absolute_text ls)
name_back [] n a = record { reads = refl; absolute = refl; goes = refl }
name_back (l ∷ ls) n a =
    let g = labels_go (l ∷ ls) a in
    let e : escaped_labels (l ∷ ls) ++ [] ≡ escaped_labels (l ∷ ls) = append-nil (escaped_labels (l ∷ ls)) in
    record {
      reads = text_back (l ∷ ls) n a;
      absolute = labels_from_false l ls a;
      goes = ap (goes_on false) (sym e) ∙ g.scans;
    }

is_no_at : (w : List ℕ) → is_absolute w ≡ true → bytes_eq w (codes "@") ≡ false
is_no_at w h =
    false_from_ne_true (bytes_eq w (codes "@"))
    (λ same.
    let e : w ≡ codes "@" = (bytes_eq-Decides w (codes "@")).0 same in
    let absolute : is_absolute (codes "@") ≡ true = rw e at h in
    cc absolute)

pub name_reads : (origin ls : List (List ℕ)) → IsName ls → HoldOctets ls → name_of origin (absolute_text ls) ≡ Ok ls
unfolding name_of
name_reads origin ls n a =
    let b = name_back ls n a in
    let no_at = is_no_at (absolute_text ls) b.absolute in
    rw (no_at, b.reads, b.absolute) refl
