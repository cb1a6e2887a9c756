-- The canonical order of names, label by label.
use Rattle.std.proofs.Common.{◌≡◌, ℕ, suc, ◌+◌, ◌-◌, List, [], ◌∷◌, ◌++◌, length, take, drop, reverse, refl, sym, ap, ◌∙◌, arith}
use Rattle.std.specs.declared.cmp.Ordering.{Ordering}
use Rattle.std.specs.declared.cmp.Ordering.TheVariants.{Less, Equal, Greater}
use Rattle.std.specs.Cmp.Lexicographic.{slice_cmp}
use Rattle.std.specs.Ordering.{nat_cmp, ordering_then}
use Rattle.std.proofs.lemmas.Bool.Decides.{nat_tests}
use Rattle.std.proofs.lemmas.List.{reverse-append, length-reverse, take-append-drop, map-append, length-take-le, length-drop}
use Rattle.dns_name.specs.Canonical.{from_last, label_cmp, name_cmp}
use Rattle.dns_name.specs.Labels.{folded}

then_assoc : (a b c : Ordering) → ordering_then (ordering_then a b) c ≡ ordering_then a (ordering_then b c)
then_assoc Less b c = refl
then_assoc Equal b c = refl
then_assoc Greater b c = refl

then_equal : (a : Ordering) → ordering_then a Equal ≡ a
then_equal Less = refl
then_equal Equal = refl
then_equal Greater = refl

-- lists after lists of one length
compared : (R : List ℕ → List ℕ → Ordering) (a b p q : List (List ℕ)) → length a ≡ length b → slice_cmp R (a ++ p) (b ++ q) ≡ ordering_then (slice_cmp R a b) (slice_cmp R p q)
compared R [] [] p q e = refl
compared R [] (y ∷ b) p q e = absurd (omega arith)
compared R (x ∷ a) [] p q e = absurd (omega arith)
compared R (x ∷ a) (y ∷ b) p q e = ap (ordering_then (R x y)) (compared R a b p q (omega arith)) ∙ sym (then_assoc (R x y) (slice_cmp R a b) (slice_cmp R p q))

length_folded : (a : List (List ℕ)) → length (folded a) ≡ length a
length_folded [] = refl
length_folded (l ∷ a) = ap suc (length_folded a)

length_from_last : (a : List (List ℕ)) → length (from_last a) ≡ length a
length_from_last a = length-reverse (folded a) ∙ length_folded a

-- the labels of the front stand after
from_last_append : (p a : List (List ℕ)) → from_last (p ++ a) ≡ from_last a ++ from_last p
from_last_append p a = ap reverse (map-append _ p a) ∙ reverse-append (folded p) (folded a)

name_cmp_append : (p q a b : List (List ℕ)) → length a ≡ length b → name_cmp (p ++ a) (q ++ b) ≡ ordering_then (name_cmp a b) (name_cmp p q)
name_cmp_append p q a b e =
    (λ i. slice_cmp (slice_cmp nat_cmp) (from_last_append p a i) (from_last_append q b i))
    ∙ compared (slice_cmp nat_cmp) (from_last a) (from_last b) (from_last p) (from_last q) (length_from_last a ∙ (e ∙ sym (length_from_last b)))

-- as many labels are left after the first ones
pub as_many : (l m : List ℕ) (a b c d : List (List ℕ)) → c ≡ l ∷ a → d ≡ m ∷ b → length c ≡ length d → length a ≡ length b
as_many l m a b c d e f g =
    let h : suc (length a) ≡ suc (length b) = sym (ap length e) ∙ (g ∙ ap length f) in
    omega arith

-- one label more in front
pub label_in_front : (l m : List ℕ) (a b c d : List (List ℕ)) (found order : Ordering) → c ≡ l ∷ a → d ≡ m ∷ b → length c ≡ length d → order ≡ label_cmp l m → ordering_then (name_cmp a b) (ordering_then order found) ≡ ordering_then (name_cmp c d) found
label_in_front l m a b c d found order e f g h =
    ap (λ o. ordering_then (name_cmp a b) (ordering_then o found)) h
    ∙ (sym (then_assoc (name_cmp a b) (label_cmp l m) found)
    ∙ (ap (λ o. ordering_then (ordering_then (name_cmp a b) o) found) (sym (then_equal (label_cmp l m)))
    ∙ (ap (λ o. ordering_then o found) (sym (name_cmp_append (l ∷ []) (m ∷ []) a b (as_many l m a b c d e f g)))
    ∙ (λ i. ordering_then (name_cmp (sym e i) (sym f i)) found))))

-- if one of two lists is empty, their counts decide
by_count : (R : List ℕ → List ℕ → Ordering) (p q : List (List ℕ)) (m n : ℕ) → length p ≡ m - n → length q ≡ n - m → slice_cmp R p q ≡ nat_cmp m n
by_count R [] [] m n e f = grind (arith, nat_tests)
by_count R [] (y ∷ q) m n e f = grind (arith, nat_tests)
by_count R (x ∷ p) [] m n e f = grind (arith, nat_tests)
by_count R (x ∷ p) (y ∷ q) m n e f = absurd (omega arith)

-- the labels that both have, and then the counts
pub by_last_and_count : (a b : List (List ℕ)) (m n : ℕ) → m ≡ length a + 1 → n ≡ length b + 1 → ordering_then (name_cmp (drop (m - n) a) (drop (n - m) b)) (nat_cmp m n) ≡ name_cmp a b
by_last_and_count a b m n e f =
    let p : List (List ℕ) = take (m - n) a in
    let q : List (List ℕ) = take (n - m) b in
    let counts = by_count (slice_cmp nat_cmp) (from_last p) (from_last q) m n (length_from_last p ∙ length-take-le (m - n) a (omega arith)) (length_from_last q ∙ length-take-le (n - m) b (omega arith)) in
    let left : length (drop (m - n) a) ≡ length (drop (n - m) b) = length-drop (m - n) a ∙ (omega arith ∙ sym (length-drop (n - m) b)) in
    ap (ordering_then (name_cmp (drop (m - n) a) (drop (n - m) b))) (sym counts)
    ∙ (sym (name_cmp_append p q (drop (m - n) a) (drop (n - m) b) left)
    ∙ (λ i. name_cmp (take-append-drop (m - n) a i) (take-append-drop (n - m) b i)))
