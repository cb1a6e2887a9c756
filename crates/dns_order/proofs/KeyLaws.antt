-- Keys compare as names do.
use Rattle.std.proofs.Common.{◌≡◌, ℕ, ◌≤◌, ◌<◌, ◌+◌, Bool, false, List, [], ◌∷◌, ◌++◌, refl, ap, sym, ◌∙◌, arith, inl, inr, append_assoc, append-nil, map, reverse}
use Rattle.std.specs.Prelude.{◌⊎◌, nat_lt, if◌then◌else◌}
use Rattle.std.specs.Cmp.Lexicographic.{slice_cmp}
use Rattle.std.specs.List.{list_any}
use Rattle.std.specs.Ordering.{nat_cmp, ordering_then}
use Rattle.std.specs.declared.cmp.Ordering.{Ordering}
use Rattle.std.specs.declared.cmp.Ordering.TheVariants.{Less, Equal, Greater}
use Rattle.std.proofs.lemmas.Bool.{cases_lt, cond_both, le-ltb, ltb-false, or_parts}
use Rattle.std.proofs.lemmas.Bool.Decides.{nat_tests}
use Rattle.std.specs.Char.{to_ascii_lowercase}
use Rattle.std.proofs.lemmas.List.{map-append, reverse-append}
use Rattle.dns_name.specs.Canonical.{from_last}
use Rattle.dns_name.specs.Labels.{folded}
use Rattle.dns_order.specs.Keys.{KeysAreOrdered, KeysBeginAlike, label_key, labels_key, canonical_key, octet_key}

abbrev cmp : List ℕ → List ℕ → Ordering
cmp a b = slice_cmp nat_cmp a b

then_assoc : (a b c : Ordering) → ordering_then (ordering_then a b) c ≡ ordering_then a (ordering_then b c)
then_assoc Less b c = refl
then_assoc Equal b c = refl
then_assoc Greater b c = refl

-- an octet is 0, 1 or more
data Kind (x : ℕ) : Type 0 where
  none : x ≡ 0 → Kind x
  one : x ≡ 1 → Kind x
  more : 2 ≤ x → Kind x

kind : (x : ℕ) → Kind x
kind x = by_two (cases_lt x 2)
  where
    by_one : x < 2 → (x < 1) ⊎ (1 ≤ x) → Kind x
    by_one h (inl k) = none (omega arith)
    by_one h (inr k) = one (omega arith)

    by_two : (x < 2) ⊎ (2 ≤ x) → Kind x
    by_two (inl h) = by_one h (cases_lt x 1)
    by_two (inr h) = more h

key_none : (x : ℕ) → x ≡ 0 → octet_key x ≡ 1 ∷ 1 ∷ []
key_none x e = ap octet_key e

key_one : (x : ℕ) → x ≡ 1 → octet_key x ≡ 1 ∷ 2 ∷ []
key_one x e = ap octet_key e

key_more : (x : ℕ) → 2 ≤ x → octet_key x ≡ x ∷ []
key_more x h = ap (λ (b : Bool). if b then 1 ∷ (if nat_lt x 1 then 1 else 2) ∷ [] else x ∷ []) (le-ltb x 2 h)

less : (x y : ℕ) (o : Ordering) → x < y → ordering_then (nat_cmp x y) o ≡ Less
less x y o h = grind (arith, nat_tests)

greater : (x y : ℕ) (o : Ordering) → y < x → ordering_then (nat_cmp x y) o ≡ Greater
greater x y o h = grind (arith, nat_tests)

level : (x y : ℕ) (o : Ordering) → x ≡ y → ordering_then (nat_cmp x y) o ≡ o
level x y o h = grind (arith, nat_tests)

octets_by : (x y : ℕ) (s t : List ℕ) → Kind x → Kind y → cmp (octet_key x ++ s) (octet_key y ++ t) ≡ ordering_then (nat_cmp x y) (cmp s t)
octets_by x y s t (none e) (none f) = (λ i. cmp (key_none x e i ++ s) (key_none y f i ++ t)) ∙ sym (level x y (cmp s t) (e ∙ sym f))
octets_by x y s t (none e) (one f) = (λ i. cmp (key_none x e i ++ s) (key_one y f i ++ t)) ∙ sym (less x y (cmp s t) (omega arith))
octets_by x y s t (none e) (more f) = (λ i. cmp (key_none x e i ++ s) (key_more y f i ++ t)) ∙ (less 1 y (cmp (1 ∷ s) t) (omega arith) ∙ sym (less x y (cmp s t) (omega arith)))
octets_by x y s t (one e) (none f) = (λ i. cmp (key_one x e i ++ s) (key_none y f i ++ t)) ∙ sym (greater x y (cmp s t) (omega arith))
octets_by x y s t (one e) (one f) = (λ i. cmp (key_one x e i ++ s) (key_one y f i ++ t)) ∙ sym (level x y (cmp s t) (e ∙ sym f))
octets_by x y s t (one e) (more f) = (λ i. cmp (key_one x e i ++ s) (key_more y f i ++ t)) ∙ (less 1 y (cmp (2 ∷ s) t) (omega arith) ∙ sym (less x y (cmp s t) (omega arith)))
octets_by x y s t (more e) (none f) = (λ i. cmp (key_more x e i ++ s) (key_none y f i ++ t)) ∙ (greater x 1 (cmp s (1 ∷ t)) (omega arith) ∙ sym (greater x y (cmp s t) (omega arith)))
octets_by x y s t (more e) (one f) = (λ i. cmp (key_more x e i ++ s) (key_one y f i ++ t)) ∙ (greater x 1 (cmp s (2 ∷ t)) (omega arith) ∙ sym (greater x y (cmp s t) (omega arith)))
octets_by x y s t (more e) (more f) = λ i. cmp (key_more x e i ++ s) (key_more y f i ++ t)

octets : (x y : ℕ) (s t : List ℕ) → cmp (octet_key x ++ s) (octet_key y ++ t) ≡ ordering_then (nat_cmp x y) (cmp s t)
octets x y s t = octets_by x y s t (kind x) (kind y)

-- the end of a label is before each octet
end_first : (y : ℕ) (s t : List ℕ) → Kind y → cmp (0 ∷ s) (octet_key y ++ t) ≡ Less
end_first y s t (none f) = λ i. cmp (0 ∷ s) (key_none y f i ++ t)
end_first y s t (one f) = λ i. cmp (0 ∷ s) (key_one y f i ++ t)
end_first y s t (more f) = (λ i. cmp (0 ∷ s) (key_more y f i ++ t)) ∙ less 0 y (cmp s t) (omega arith)

end_last : (x : ℕ) (s t : List ℕ) → Kind x → cmp (octet_key x ++ s) (0 ∷ t) ≡ Greater
end_last x s t (none f) = λ i. cmp (key_none x f i ++ s) (0 ∷ t)
end_last x s t (one f) = λ i. cmp (key_one x f i ++ s) (0 ∷ t)
end_last x s t (more f) = (λ i. cmp (key_more x f i ++ s) (0 ∷ t)) ∙ greater x 0 (cmp s t) (omega arith)

pub labels : (a b s t : List ℕ) → cmp (label_key a ++ s) (label_key b ++ t) ≡ ordering_then (slice_cmp nat_cmp a b) (cmp s t)
labels [] [] s t = refl
labels [] (y ∷ b) s t = ap (cmp (0 ∷ s)) (append_assoc (octet_key y) (label_key b) t) ∙ end_first y s (label_key b ++ t) (kind y)
labels (x ∷ a) [] s t = ap (λ (k : List ℕ). cmp k (0 ∷ t)) (append_assoc (octet_key x) (label_key a) s) ∙ end_last x (label_key a ++ s) t (kind x)
labels (x ∷ a) (y ∷ b) s t =
    (λ i. cmp (append_assoc (octet_key x) (label_key a) s i) (append_assoc (octet_key y) (label_key b) t i))
    ∙ (octets x y (label_key a ++ s) (label_key b ++ t)
    ∙ (ap (ordering_then (nat_cmp x y)) (labels a b s t) ∙ sym (then_assoc (nat_cmp x y) (slice_cmp nat_cmp a b) (cmp s t))))

-- no key is empty
pub first_less : (l : List ℕ) (s : List ℕ) → cmp [] (label_key l ++ s) ≡ Less
first_less [] s = refl
first_less (x ∷ l) s = ap (cmp []) (append_assoc (octet_key x) (label_key l) s) ∙ by_kind (kind x)
  where
    by_kind : Kind x → cmp [] (octet_key x ++ (label_key l ++ s)) ≡ Less
    by_kind (none f) = λ i. cmp [] (key_none x f i ++ (label_key l ++ s))
    by_kind (one f) = λ i. cmp [] (key_one x f i ++ (label_key l ++ s))
    by_kind (more f) = λ i. cmp [] (key_more x f i ++ (label_key l ++ s))

last_greater : (l : List ℕ) (s : List ℕ) → cmp (label_key l ++ s) [] ≡ Greater
last_greater [] s = refl
last_greater (x ∷ l) s = ap (λ (k : List ℕ). cmp k []) (append_assoc (octet_key x) (label_key l) s) ∙ by_kind (kind x)
  where
    by_kind : Kind x → cmp (octet_key x ++ (label_key l ++ s)) [] ≡ Greater
    by_kind (none f) = λ i. cmp (key_none x f i ++ (label_key l ++ s)) []
    by_kind (one f) = λ i. cmp (key_one x f i ++ (label_key l ++ s)) []
    by_kind (more f) = λ i. cmp (key_more x f i ++ (label_key l ++ s)) []

all_labels : (xs ys : List (List ℕ)) → cmp (labels_key xs) (labels_key ys) ≡ slice_cmp (slice_cmp nat_cmp) xs ys
all_labels [] [] = refl
all_labels [] (y ∷ ys) = first_less y (labels_key ys)
all_labels (x ∷ xs) [] = last_greater x (labels_key xs)
all_labels (x ∷ xs) (y ∷ ys) = labels x y (labels_key xs) (labels_key ys) ∙ ap (ordering_then (slice_cmp nat_cmp x y)) (all_labels xs ys)

pub keys_are_ordered : KeysAreOrdered
unfolding canonical_key
keys_are_ordered a b = all_labels (from_last a) (from_last b)

-- ---- names above

pub labels_key_append : (xs ys : List (List ℕ)) → labels_key (xs ++ ys) ≡ labels_key xs ++ labels_key ys
labels_key_append [] ys = refl
labels_key_append (x ∷ xs) ys = ap (λ (k : List ℕ). label_key x ++ k) (labels_key_append xs ys) ∙ sym (append_assoc (label_key x) (labels_key xs) (labels_key ys))

pub keys_begin_alike : KeysBeginAlike
unfolding canonical_key
keys_begin_alike below above =
    ap labels_key (ap reverse (map-append (map to_ascii_lowercase) below above) ∙ reverse-append (folded below) (folded above)) ∙ labels_key_append (from_last above) (from_last below)

-- ---- how a key is made

-- the last labels come first
labels_behind : (l : List ℕ) (ls : List (List ℕ)) → labels_key (from_last (l ∷ ls)) ≡ labels_key (from_last ls) ++ label_key (map to_ascii_lowercase l)
labels_behind l ls =
    let x = map to_ascii_lowercase l in
    ap labels_key (reverse-append (x ∷ []) (folded ls))
    ∙ (labels_key_append (from_last ls) (x ∷ []) ∙ ap (λ (k : List ℕ). labels_key (from_last ls) ++ k) (append-nil (label_key x)))

pub keys_pushed : (o v w l : List ℕ) (left next : List (List ℕ)) → left ≡ l ∷ next → v ≡ o ++ labels_key (from_last next) → w ≡ v ++ label_key (map to_ascii_lowercase l) → w ≡ o ++ labels_key (from_last left)
keys_pushed o v w l left next e f g =
    g
    ∙ (ap (λ (k : List ℕ). k ++ label_key (map to_ascii_lowercase l)) f
    ∙ (append_assoc o (labels_key (from_last next)) (label_key (map to_ascii_lowercase l))
    ∙ ap (λ (k : List ℕ). o ++ k) (sym (ap (λ (y : List (List ℕ)). labels_key (from_last y)) e ∙ labels_behind l next))))

-- an octet in lower case is no less
lower_more : (x : ℕ) → 2 ≤ x → 2 ≤ to_ascii_lowercase x
lower_more x h = cond_both (nat_lt x 65) x (if nat_lt x 91 then x + 32 else x) (λ y. 2 ≤ y) (λ e. h) (λ e. cond_both (nat_lt x 91) (x + 32) x (λ y. 2 ≤ y) (λ f. omega (arith, h)) (λ f. h))

-- a label whose octets are each written as one is its own key
plain_key : (l : List ℕ) → list_any (λ x. nat_lt x 2) l ≡ false → label_key (map to_ascii_lowercase l) ≡ map to_ascii_lowercase l ++ 0 ∷ []
plain_key [] h = refl
plain_key (x ∷ l) h =
    let p = or_parts (nat_lt x 2) (list_any (λ y. nat_lt y 2) l) h in
    λ i. key_more (to_ascii_lowercase x) (lower_more x (ltb-false x 2 p.0)) i ++ plain_key l p.1 i

pub plain_pushed : (o v w l : List ℕ) → list_any (λ x. nat_lt x 2) l ≡ false → v ≡ o ++ map to_ascii_lowercase l → w ≡ v ++ 0 ∷ [] → w ≡ o ++ label_key (map to_ascii_lowercase l)
plain_pushed o v w l h e f =
    f
    ∙ (ap (λ (k : List ℕ). k ++ 0 ∷ []) e
    ∙ (append_assoc o (map to_ascii_lowercase l) (0 ∷ []) ∙ ap (λ (k : List ℕ). o ++ k) (sym (plain_key l h))))
