-- Keys are the same if names are, and begin with those of the names above alone.
use Rattle.std.proofs.Common.{◌≡◌, ℕ, zero, suc, ◌+◌, ◌-◌, true, List, [], ◌∷◌, ◌++◌, length, map, reverse, take, drop, refl, ap, sym, ◌∙◌, arith, append_assoc, length-append}
use Rattle.std.specs.Cmp.Lexicographic.{bytes_decides, slice_cmp, texts_ties}
use Rattle.std.specs.Ordering.{is_eq, nat_cmp, ordering_then}
use Rattle.std.specs.declared.cmp.Ordering.{Ordering}
use Rattle.std.specs.declared.cmp.Ordering.TheVariants.{Less, Equal, Greater}
use Rattle.std.specs.Char.{to_ascii_lowercase}
use Rattle.std.proofs.lemmas.List.{drop-map, length-map, reverse-append, reverse-reverse}
use Rattle.std.proofs.Math.Seq.{drop-append_seam}
use Rattle.dns_name.specs.Canonical.{from_last, same_name_ties}
use Rattle.dns_name.specs.Labels.{EndsWith, folded}
use Rattle.dns_order.specs.Keys.{BeginsWith, KeysAreNames, KeysBeginAbove, canonical_key, label_key, labels_key}
use Rattle.dns_order.proofs.KeyLaws.{first_less, keys_are_ordered, labels, labels_key_append}

pub keys_are_names : KeysAreNames
keys_are_names a b = texts_ties (canonical_key a) (canonical_key b) ∙ (ap is_eq (keys_are_ordered a b) ∙ sym (same_name_ties a b))

-- ---- octets that are the same

equal_of : (o : Ordering) → is_eq o ≡ true → o ≡ Equal
equal_of Less h = absurd (cc)
equal_of Equal h = refl
equal_of Greater h = absurd (cc)

same_equal : (p q : List ℕ) → p ≡ q → slice_cmp nat_cmp p q ≡ Equal
same_equal p q e = equal_of (slice_cmp nat_cmp p q) (sym (texts_ties p q) ∙ (bytes_decides p q).1 e)

equal_same : (p q : List ℕ) → slice_cmp nat_cmp p q ≡ Equal → p ≡ q
equal_same p q e = (bytes_decides p q).0 (texts_ties p q ∙ ap is_eq e)

both_equal : (a b : Ordering) → ordering_then a b ≡ Equal → (a ≡ Equal) × (b ≡ Equal)
both_equal Less b h = absurd (cc)
both_equal Equal b h = (refl, h)
both_equal Greater b h = absurd (cc)

-- ---- a key is read label by label

one_label : (x y s t : List ℕ) → label_key x ++ s ≡ label_key y ++ t → (x ≡ y) × (s ≡ t)
one_label x y s t h =
    let o = both_equal (slice_cmp nat_cmp x y) (slice_cmp nat_cmp s t) (sym (labels x y s t) ∙ same_equal (label_key x ++ s) (label_key y ++ t) h) in
    (equal_same x y o.0, equal_same s t o.1)

not_less : Equal ≡ Less → ⊥
not_less h = absurd (cc)

all_read : (xs ys : List (List ℕ)) (rest : List ℕ) → labels_key xs ≡ labels_key ys ++ rest → (zs : List (List ℕ)) × (xs ≡ ys ++ zs)
all_read xs [] rest h = (xs, refl)
all_read [] (y ∷ ys) rest h = absurd (not_less (ap (slice_cmp nat_cmp []) (h ∙ append_assoc (label_key y) (labels_key ys) rest) ∙ first_less y (labels_key ys ++ rest)))
all_read (x ∷ xs) (y ∷ ys) rest h =
    let s = one_label x y (labels_key xs) (labels_key ys ++ rest) (h ∙ append_assoc (label_key y) (labels_key ys) rest) in
    let t = all_read xs ys rest s.1 in
    (t.0, ap (λ (l : List (List ℕ)). x ∷ l) t.1 ∙ ap (λ (l : List ℕ). l ∷ (ys ++ t.0)) s.0)

-- ---- names that end with others

ends_by : (a b zs : List (List ℕ)) → from_last a ≡ from_last b ++ zs → EndsWith a b
ends_by a b zs e =
    let f : folded a ≡ reverse zs ++ folded b = sym (reverse-reverse (folded a)) ∙ (ap reverse e ∙ (reverse-append (from_last b) zs ∙ ap (λ (l : List (List ℕ)). reverse zs ++ l) (reverse-reverse (folded b)))) in
    let n : length a ≡ length (reverse zs) + length b = omega (arith, ap length f, length-append (reverse zs) (folded b), length-map a (map to_ascii_lowercase), length-map b (map to_ascii_lowercase)) in
    let k : length a - length b ≡ length (reverse zs) = omega (arith, n) in
    record {
      enough = omega (arith, n);
      last = sym (drop-map (map to_ascii_lowercase) (length a - length b) a) ∙ (ap (λ (i : ℕ). drop i (folded a)) k ∙ (ap (drop (length (reverse zs))) f ∙ drop-append_seam (reverse zs) (folded b)));
    }

halves : (n : ℕ) (xs : List (List ℕ)) → take n xs ++ drop n xs ≡ xs
halves zero xs = refl
halves (suc n) [] = refl
halves (suc n) (x ∷ xs) = ap (λ (l : List (List ℕ)). x ∷ l) (halves n xs)

begins_by : (a b : List (List ℕ)) → EndsWith a b → BeginsWith (canonical_key a) (canonical_key b)
unfolding canonical_key
begins_by a b h =
    let k = length a - length b in
    let p = take k (folded a) in
    let d : drop k (folded a) ≡ folded b = drop-map (map to_ascii_lowercase) k a ∙ h.last in
    let f : from_last a ≡ from_last b ++ reverse p = ap reverse (sym (halves k (folded a)) ∙ ap (λ (l : List (List ℕ)). p ++ l) d) ∙ reverse-append p (folded b) in
    (labels_key (reverse p), ap labels_key f ∙ labels_key_append (from_last b) (reverse p))

ends_read : (a b : List (List ℕ)) → BeginsWith (canonical_key a) (canonical_key b) → EndsWith a b
unfolding canonical_key
ends_read a b h =
    let s = all_read (from_last a) (from_last b) h.0 h.1 in
    ends_by a b s.0 s.1

pub keys_begin_above : KeysBeginAbove
keys_begin_above a b = (ends_read a b, begins_by a b)
