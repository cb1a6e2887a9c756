-- The canonical order of names: a name is before those below it, and what is between two names below a name is below it too.
use Rattle.std.proofs.Common.{◌≡◌, ℕ, true, false, List, [], ◌∷◌, ◌++◌, refl, ap, sym, ◌∙◌}
use Rattle.std.specs.Cmp.Lexicographic.{bytes_decides, nat_list_cmp_total, slice_cmp, texts_ties}
use Rattle.std.specs.Ordering.{is_eq, is_gt, is_lt, nat_cmp, ordering_reverse, ordering_then}
use Rattle.std.specs.declared.cmp.Ordering.{Ordering}
use Rattle.std.specs.declared.cmp.Ordering.TheVariants.{Less, Equal, Greater}
use Rattle.std.proofs.lemmas.Bool.{true≢false, true_from_ne_false}
use Rattle.std.proofs.lemmas.Cmp.{alike_right, tied_back, tied_itself, upto}
use Rattle.dns_name.specs.Canonical.{from_last, name_cmp, name_cmp_total, same_name, same_name_ties}
use Rattle.dns_route.specs.Routes.{ends_name}
use Rattle.dns_denial.specs.Nsecs.{is_before}
use Rattle.dns_denial.proofs.NameLaws.{StartsWith, ends_key, key_ends}

-- labels, the last first
abbrev labels_cmp : List (List ℕ) → List (List ℕ) → Ordering
labels_cmp a b = slice_cmp (slice_cmp nat_cmp) a b

label_equal : (a b : List ℕ) → slice_cmp nat_cmp a b ≡ Equal → a ≡ b
label_equal a b e = (bytes_decides a b).0 (texts_ties a b ∙ ap is_eq e)

between_step : (l m : List ℕ) (p a b x : List (List ℕ)) (o : Ordering) → slice_cmp nat_cmp l m ≡ o → (is_gt (labels_cmp (p ++ a) x) ≡ false → is_gt (labels_cmp x (p ++ b)) ≡ false → StartsWith x p) →
    is_gt (ordering_then (slice_cmp nat_cmp l m) (labels_cmp (p ++ a) x)) ≡ false → is_gt (ordering_then (slice_cmp nat_cmp m l) (labels_cmp x (p ++ b))) ≡ false → StartsWith (m ∷ x) (l ∷ p)
between_step l m p a b x Less e ih h k =
    let g : slice_cmp nat_cmp m l ≡ Greater = nat_list_cmp_total.antisymm m l ∙ ap ordering_reverse e in
    absurd (true≢false (sym (ap (λ (o : Ordering). is_gt (ordering_then o (labels_cmp x (p ++ b)))) g) ∙ k))
between_step l m p a b x Greater e ih h k = absurd (true≢false (sym (ap (λ (o : Ordering). is_gt (ordering_then o (labels_cmp (p ++ a) x))) e) ∙ h))
between_step l m p a b x Equal e ih h k =
    let g : slice_cmp nat_cmp m l ≡ Equal = tied_back nat_list_cmp_total l m e in
    let q : l ≡ m = label_equal l m e in
    let i = ih (sym (ap (λ (o : Ordering). is_gt (ordering_then o (labels_cmp (p ++ a) x))) e) ∙ h) (sym (ap (λ (o : Ordering). is_gt (ordering_then o (labels_cmp x (p ++ b)))) g) ∙ k) in
    record { rest = i.rest; whole = λ j. sym q j ∷ i.whole j }

-- what is between two lists that start alike starts so too
between : (p a b x : List (List ℕ)) → is_gt (labels_cmp (p ++ a) x) ≡ false → is_gt (labels_cmp x (p ++ b)) ≡ false → StartsWith x p
between [] a b x h k = record { rest = x; whole = refl }
between (l ∷ p) a b [] h k = absurd (true≢false h)
between (l ∷ p) a b (m ∷ x) h k = between_step l m p a b x (slice_cmp nat_cmp l m) refl (between p a b x) h k

starts_first : (p r : List (List ℕ)) → is_gt (labels_cmp p (p ++ r)) ≡ false
starts_first [] [] = refl
starts_first [] (y ∷ r) = refl
starts_first (l ∷ p) r = ap (λ (o : Ordering). is_gt (ordering_then o (labels_cmp p (p ++ r)))) (tied_itself nat_list_cmp_total l) ∙ starts_first p r

-- ---- names in order

flipped : (o : Ordering) → is_gt (ordering_reverse o) ≡ is_lt o
flipped Less = refl
flipped Equal = refl
flipped Greater = refl

not_both : (o : Ordering) → is_lt o ≡ true → is_gt o ≡ false
not_both Less h = refl
not_both Equal h = absurd (true≢false (sym h))
not_both Greater h = absurd (true≢false (sym h))

one_left : (o : Ordering) → is_lt o ≡ false → is_eq o ≡ false → is_gt o ≡ true
one_left Less h k = absurd (true≢false h)
one_left Equal h k = absurd (true≢false k)
one_left Greater h k = refl

tied : (o : Ordering) → is_eq o ≡ true → o ≡ Equal
tied Less h = absurd (true≢false (sym h))
tied Equal h = refl
tied Greater h = absurd (true≢false (sym h))

turned : (a b : List (List ℕ)) → is_gt (name_cmp a b) ≡ is_before b a
turned a b = ap is_gt (name_cmp_total.antisymm a b) ∙ flipped (name_cmp b a)

-- a is not after b, nor b after c
pub upto_trans : (a b c : List (List ℕ)) → is_before b a ≡ false → is_before c b ≡ false → is_before c a ≡ false
upto_trans a b c h k = sym (turned a c) ∙ upto name_cmp_total a b c (turned a b ∙ h) (turned b c ∙ k)

pub before_upto : (a b : List (List ℕ)) → is_before a b ≡ true → is_before b a ≡ false
before_upto a b h = sym (turned a b) ∙ not_both (name_cmp a b) h

pub before_apart : (a b : List (List ℕ)) → is_before a b ≡ false → same_name a b ≡ false → is_before b a ≡ true
before_apart a b h k = sym (turned a b) ∙ one_left (name_cmp a b) h (sym (same_name_ties a b) ∙ k)

pub upto_both : (a b : List (List ℕ)) → is_before a b ≡ false → is_before b a ≡ false → same_name a b ≡ true
upto_both a b h k = true_from_ne_false (same_name a b) (λ f. true≢false (sym (before_apart a b h f) ∙ k))

pub upto_before : (a b c : List (List ℕ)) → is_before b a ≡ false → is_before b c ≡ true → is_before a c ≡ true
upto_before a b c h k = true_from_ne_false (is_before a c) (λ f. true≢false (sym k ∙ upto_trans c a b f h))

pub before_before : (a b c : List (List ℕ)) → is_before a b ≡ true → is_before c b ≡ false → is_before a c ≡ true
before_before a b c h k = true_from_ne_false (is_before a c) (λ f. true≢false (sym h ∙ upto_trans b c a k f))

same_equal : (a b : List (List ℕ)) → same_name a b ≡ true → name_cmp a b ≡ Equal
same_equal a b h = tied (name_cmp a b) (sym (same_name_ties a b) ∙ h)

pub before_left : (a b c : List (List ℕ)) → same_name a b ≡ true → is_before a c ≡ is_before b c
before_left a b c h = ap is_lt (name_cmp_total.congr a b c (same_equal a b h))

pub before_right : (a b c : List (List ℕ)) → same_name a b ≡ true → is_before c a ≡ is_before c b
before_right a b c h = ap is_lt (alike_right name_cmp_total a b c (same_equal a b h))

pub same_upto : (a b : List (List ℕ)) → same_name a b ≡ true → is_before a b ≡ false
same_upto a b h = ap is_lt (same_equal a b h)

-- ---- names below a name

-- a name is not after those that end with it
pub ends_upto : (a s : List (List ℕ)) → ends_name a s ≡ true → is_before a s ≡ false
ends_upto a s h =
    let p = ends_key a s h in
    sym (turned s a) ∙ (ap (λ (y : List (List ℕ)). is_gt (labels_cmp (from_last s) y)) p.whole ∙ starts_first (from_last s) p.rest)

-- what is between two names that end with a name ends with it
pub ends_between : (a b x s : List (List ℕ)) → ends_name a s ≡ true → ends_name b s ≡ true → is_before x a ≡ false → is_before b x ≡ false → ends_name x s ≡ true
ends_between a b x s ea eb h k =
    let p = ends_key a s ea in
    let q = ends_key b s eb in
    let f : is_gt (labels_cmp (from_last s ++ p.rest) (from_last x)) ≡ false = ap (λ (y : List (List ℕ)). is_gt (labels_cmp y (from_last x))) (sym p.whole) ∙ (turned a x ∙ h) in
    let g : is_gt (labels_cmp (from_last x) (from_last s ++ q.rest)) ≡ false = ap (λ (y : List (List ℕ)). is_gt (labels_cmp (from_last x) y)) (sym q.whole) ∙ (turned x b ∙ k) in
    key_ends x s (between (from_last s) p.rest q.rest (from_last x) f g)
