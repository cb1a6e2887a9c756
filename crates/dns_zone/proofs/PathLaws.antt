-- Paths: that names are the same, or that one ends with another, is seen of their octets.
use Rattle.std.proofs.Common.{◌≡◌, ℕ, ◌-◌, ◌≤◌, Bool, true, false, List, [], ◌∷◌, ◌++◌, length, map, take, drop, reverse, nat_eq, nat_le, refl, ap, sym, ◌∙◌, arith, append_assoc, append-nil, length-append}
use Rattle.std.specs.Prelude.{◌&&◌, ◌==◌}
use Rattle.std.specs.Char.{to_ascii_lowercase}
use Rattle.std.specs.Cmp.{both_ways}
use Rattle.std.specs.Cmp.Lexicographic.{bytes_decides}
use Rattle.std.specs.List.{starts_with}
use Rattle.std.specs.Str.{bytes_eq}
use Rattle.std.proofs.lemmas.Bool.Decides.{nat_tests}
use Rattle.std.proofs.lemmas.List.{reverse-append, reverse-reverse, length-reverse, length-drop, length-map, length-take-le, take-append-drop, drop-map}
use Rattle.std.proofs.Math.Seq.{take-append_seam, drop-append_seam}
use Rattle.dns_name.specs.Canonical.{same_name, same_name_Decides}
use Rattle.dns_name.specs.Labels.{folded}
use Rattle.dns_route.specs.Routes.{ends_name}
use Rattle.dns_zone.specs.Paths.{marked, name_path}

-- ---- tests

pub both_true : (a b : Bool) → a ≡ true → b ≡ true → (a && b) ≡ true
both_true true b h i = i
both_true false b h i = absurd (cc)

pub first_true : (a b : Bool) → (a && b) ≡ true → a ≡ true
first_true true b h = refl
first_true false b h = h

pub second_true : (a b : Bool) → (a && b) ≡ true → b ≡ true
second_true true b h = h
second_true false b h = absurd (cc)

pub eq_true : (a b : ℕ) → a ≡ b → nat_eq a b ≡ true
eq_true a b h = grind (arith, nat_tests)

pub true_eq : (a b : ℕ) → nat_eq a b ≡ true → a ≡ b
true_eq a b h = grind (arith, nat_tests)

pub le_true : (a b : ℕ) → a ≤ b → nat_le a b ≡ true
le_true a b h = grind (arith, nat_tests)

pub true_le : (a b : ℕ) → nat_le a b ≡ true → a ≤ b
true_le a b h = grind (arith, nat_tests)

-- ---- labels from the last to the first

-- in lower case
abbrev pub turned : List (List ℕ) → List (List ℕ)
turned ls = reverse (folded ls)

-- each after its length, from its end
abbrev pub coded : List (List ℕ) → List ℕ
coded [] = []
coded (l ∷ ls) = length l ∷ (reverse l ++ coded ls)

pub coded_append : (xs ys : List (List ℕ)) → coded (xs ++ ys) ≡ coded xs ++ coded ys
coded_append [] ys = refl
coded_append (l ∷ xs) ys =
    ap (λ o. length l ∷ (reverse l ++ o)) (coded_append xs ys) ∙ ap (λ o. length l ∷ o) (sym (append_assoc (reverse l) (coded xs) (coded ys)))

turn_marked : (ls : List (List ℕ)) → reverse (marked ls) ≡ coded (reverse ls)
turn_marked [] = refl
turn_marked (l ∷ ls) =
    reverse-append l (length l ∷ marked ls)
    ∙ (ap (λ o. o ++ reverse l) (reverse-append (length l ∷ []) (marked ls))
    ∙ (append_assoc (reverse (marked ls)) (length l ∷ []) (reverse l)
    ∙ (ap (λ o. o ++ (length l ∷ reverse l)) (turn_marked ls)
    ∙ (ap (λ o. coded (reverse ls) ++ (length l ∷ o)) (sym (append-nil (reverse l)))
    ∙ (sym (coded_append (reverse ls) (l ∷ [])) ∙ ap coded (sym (reverse-append (l ∷ []) ls)))))))

pub path_coded : (ls : List (List ℕ)) → name_path ls ≡ coded (turned ls)
unfolding name_path
path_coded ls = turn_marked (folded ls)

-- ---- octets that begin alike

split_alike : {A : Type 0} (a b s t : List A) → length a ≡ length b → a ++ s ≡ b ++ t → (a ≡ b) × (s ≡ t)
split_alike {A} a b s t n e =
    let l : a ≡ b = sym (take-append_seam a s) ∙ (ap (take (length a)) e ∙ (ap (λ k. take k (b ++ t)) n ∙ take-append_seam b t)) in
    let r : s ≡ t = sym (drop-append_seam a s) ∙ (ap (drop (length a)) e ∙ (ap (λ k. drop k (b ++ t)) n ∙ drop-append_seam b t)) in
    (l, r)

-- a label and what is after it
label_alike : (x y : List ℕ) (s t : List ℕ) → length x ∷ (reverse x ++ s) ≡ length y ∷ (reverse y ++ t) → (x ≡ y) × (s ≡ t)
label_alike x y s t e =
    let n : length x ≡ length y = cc in
    let f : reverse x ++ s ≡ reverse y ++ t = cc in
    let p = split_alike (reverse x) (reverse y) s t (length-reverse x ∙ (n ∙ sym (length-reverse y))) f in
    (sym (reverse-reverse x) ∙ (ap reverse p.0 ∙ reverse-reverse y), p.1)

pub coded_same : (xs ys : List (List ℕ)) → coded xs ≡ coded ys → xs ≡ ys
coded_same [] [] e = refl
coded_same [] (y ∷ ys) e = absurd (cc)
coded_same (x ∷ xs) [] e = absurd (cc)
coded_same (x ∷ xs) (y ∷ ys) e =
    let p = label_alike x y (coded xs) (coded ys) e in
    let a : x ≡ y = p.0 in
    let b : xs ≡ ys = coded_same xs ys p.1 in
    cc

-- labels whose octets begin with those of labels begin with these
coded_begins : (xs ys : List (List ℕ)) (rest : List ℕ) → coded ys ≡ coded xs ++ rest → ys ≡ xs ++ drop (length xs) ys
coded_begins [] ys rest e = refl
coded_begins (x ∷ xs) [] rest e = absurd (cc)
coded_begins (x ∷ xs) (y ∷ ys) rest e =
    let f : length y ∷ (reverse y ++ coded ys) ≡ length x ∷ (reverse x ++ (coded xs ++ rest)) = e ∙ ap (λ o. length x ∷ o) (append_assoc (reverse x) (coded xs) rest) in
    let p = label_alike y x (coded ys) (coded xs ++ rest) f in
    let a : y ≡ x = p.0 in
    let b : ys ≡ xs ++ drop (length xs) ys = coded_begins xs ys rest p.1 in
    ap (λ l. l ∷ ys) a ∙ ap (λ l. x ∷ l) b

-- ---- names that end with names

pub turned_length : (ls : List (List ℕ)) → length (turned ls) ≡ length ls
turned_length ls = length-reverse (folded ls) ∙ length-map ls (map to_ascii_lowercase)

pub same_length : (a b : List (List ℕ)) → same_name a b ≡ true → length a ≡ length b
same_length a b h = sym (length-map a (map to_ascii_lowercase)) ∙ (ap length ((same_name_Decides a b).0 h) ∙ length-map b (map to_ascii_lowercase))

turn_back : (a b : List (List ℕ)) → turned a ≡ turned b → folded a ≡ folded b
turn_back a b e = sym (reverse-reverse (folded a)) ∙ (ap reverse e ∙ reverse-reverse (folded b))

-- the first labels of those turned
turned_first : (ls : List (List ℕ)) (m : ℕ) → m ≤ length ls → take m (reverse ls) ≡ reverse (drop (length ls - m) ls)
turned_first ls m h =
    let j = length ls - m in
    let n : m ≡ length (reverse (drop j ls)) = omega (arith, length-reverse (drop j ls), length-drop j ls) in
    let e : reverse ls ≡ reverse (drop j ls) ++ reverse (take j ls) = ap reverse (sym (take-append-drop j ls)) ∙ reverse-append (take j ls) (drop j ls) in
    ap (take m) e ∙ (ap (λ k. take k (reverse (drop j ls) ++ reverse (take j ls))) n ∙ take-append_seam (reverse (drop j ls)) (reverse (take j ls)))

turned_end : (q : List (List ℕ)) (m : ℕ) → m ≤ length q → take m (turned q) ≡ turned (drop (length q - m) q)
turned_end q m h =
    let n : length (folded q) ≡ length q = length-map q (map to_ascii_lowercase) in
    turned_first (folded q) m (omega arith) ∙ (ap (λ k. reverse (drop (k - m) (folded q))) n ∙ ap reverse (drop-map (map to_ascii_lowercase) (length q - m) q))

-- a name ends with another exactly if its turned labels begin with the other's
pub record Begins (q o : List (List ℕ)) : Type 0 where
  pub short : length o ≤ length q
  pub first : take (length o) (turned q) ≡ turned o

pub begins_of : (q o : List (List ℕ)) → ends_name q o ≡ true → Begins q o
begins_of q o h =
    let s = true_le (length o) (length q) (first_true (nat_le (length o) (length q)) (same_name (drop (length q - length o) q) o) h) in
    let e = (same_name_Decides (drop (length q - length o) q) o).0 (second_true (nat_le (length o) (length q)) (same_name (drop (length q - length o) q) o) h) in
    record { short = s; first = turned_end q (length o) s ∙ ap reverse e }

pub ends_of : (q o : List (List ℕ)) → Begins q o → ends_name q o ≡ true
ends_of q o b =
    let d = drop (length q - length o) q in
    both_true (nat_le (length o) (length q)) (same_name d o) (le_true (length o) (length q) b.short)
    ((same_name_Decides d o).1 (turn_back d o (sym (turned_end q (length o) b.short) ∙ b.first)))

-- the path of a name begins with that many labels exactly if these are those of a name
pub path_at : (q o : List (List ℕ)) (k : ℕ) → k ≤ length q → bytes_eq (coded (take k (turned q))) (name_path o) ≡ (ends_name q o && nat_eq (length o) k)
path_at q o k h =
    let l : length (turned q) ≡ length q = turned_length q in
    let there : bytes_eq (coded (take k (turned q))) (name_path o) ≡ true → (ends_name q o && nat_eq (length o) k) ≡ true = λ t.
    let e : take k (turned q) ≡ turned o = coded_same (take k (turned q)) (turned o) ((bytes_decides (coded (take k (turned q))) (name_path o)).0 t ∙ path_coded o) in
    let n : length o ≡ k = omega (arith, turned_length o, ap length e, length-take-le k (turned q) (omega arith)) in
    both_true (ends_name q o) (nat_eq (length o) k) (ends_of q o (record { short = omega arith; first = ap (λ i. take i (turned q)) n ∙ e })) (eq_true (length o) k n)
    in
    let back : (ends_name q o && nat_eq (length o) k) ≡ true → bytes_eq (coded (take k (turned q))) (name_path o) ≡ true = λ t.
    let b = begins_of q o (first_true (ends_name q o) (nat_eq (length o) k) t) in
    let n : length o ≡ k = true_eq (length o) k (second_true (ends_name q o) (nat_eq (length o) k) t) in
    (bytes_decides (coded (take k (turned q))) (name_path o)).1 (ap coded (ap (λ i. take i (turned q)) (sym n) ∙ b.first) ∙ sym (path_coded o))
    in
    both_ways _ _ there back

-- paths are the same exactly if names are
pub path_same : (a b : List (List ℕ)) → bytes_eq (name_path a) (name_path b) ≡ same_name a b
path_same a b =
    let there : bytes_eq (name_path a) (name_path b) ≡ true → same_name a b ≡ true = λ t.
    (same_name_Decides a b).1 (turn_back a b (coded_same (turned a) (turned b) (sym (path_coded a) ∙ ((bytes_decides (name_path a) (name_path b)).0 t ∙ path_coded b))))
    in
    let back : same_name a b ≡ true → bytes_eq (name_path a) (name_path b) ≡ true = λ t.
    (bytes_decides (name_path a) (name_path b)).1 (path_coded a ∙ (ap (λ ls. coded (reverse ls)) ((same_name_Decides a b).0 t) ∙ sym (path_coded b)))
    in
    both_ways _ _ there back

-- the path of a name begins with that of another exactly if the name ends with the other
pub path_begins : (a b : List (List ℕ)) → starts_with ◌==◌ (name_path a) (name_path b) ≡ ends_name a b
path_begins a b =
    let n = length (name_path b) in
    let there : bytes_eq (name_path b) (take n (name_path a)) ≡ true → ends_name a b ≡ true = λ t.
    let e : name_path b ≡ take n (name_path a) = (bytes_decides (name_path b) (take n (name_path a))).0 t in
    let s : name_path a ≡ name_path b ++ drop n (name_path a) = sym (take-append-drop n (name_path a)) ∙ ap (λ o. o ++ drop n (name_path a)) (sym e) in
    let c : coded (turned a) ≡ coded (turned b) ++ drop n (name_path a) = sym (path_coded a) ∙ (s ∙ ap (λ o. o ++ drop n (name_path a)) (path_coded b)) in
    let f : turned a ≡ turned b ++ drop (length (turned b)) (turned a) = coded_begins (turned b) (turned a) (drop n (name_path a)) c in
    ends_of a b (record {
      short = omega (arith, turned_length a, turned_length b, ap length f, length-append (turned b) (drop (length (turned b)) (turned a)));
      first = ap (λ k. take k (turned a)) (sym (turned_length b)) ∙ (ap (take (length (turned b))) f ∙ take-append_seam (turned b) (drop (length (turned b)) (turned a)));
    })
    in
    let back : ends_name a b ≡ true → bytes_eq (name_path b) (take n (name_path a)) ≡ true = λ t.
    let g = begins_of a b t in
    let f : turned a ≡ turned b ++ drop (length b) (turned a) = sym (take-append-drop (length b) (turned a)) ∙ ap (λ l. l ++ drop (length b) (turned a)) g.first in
    let c : name_path a ≡ name_path b ++ coded (drop (length b) (turned a)) =
    path_coded a ∙ (ap coded f ∙ (coded_append (turned b) (drop (length b) (turned a)) ∙ ap (λ o. o ++ coded (drop (length b) (turned a))) (sym (path_coded b))))
    in
    (bytes_decides (name_path b) (take n (name_path a))).1 (sym (take-append_seam (name_path b) (coded (drop (length b) (turned a)))) ∙ ap (take n) (sym c))
    in
    both_ways _ _ there back
