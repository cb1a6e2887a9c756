-- The order of keys: which comes before which, and which begin alike.
use Rattle.std.proofs.Common.{◌≡◌, ℕ, ◌≤◌, ◌<◌, Bool, true, false, List, [], length, take, take_all, nat_le, refl, ap, sym, ◌∙◌, arith, inl, inr}
use Rattle.std.specs.Prelude.{◌&&◌, ◌⊎◌, not, if◌then◌else◌}
use Rattle.std.specs.List.{slice_range}
use Rattle.std.specs.Cmp.{IsStrictWeakOrder}
use Rattle.std.specs.Cmp.Lexicographic.{bytes_decides, nat_list_cmp_total, slice_cmp, texts_ties}
use Rattle.std.specs.Ordering.{is_eq, is_gt, is_lt, nat_cmp, ordering_reverse}
use Rattle.std.specs.declared.cmp.Ordering.{Ordering}
use Rattle.std.specs.declared.cmp.Ordering.TheVariants.{Less, Equal, Greater}
use Rattle.std.specs.Str.{bytes_eq}
use Rattle.std.proofs.lemmas.Bool.{true≢false, false_from_ne_true}
use Rattle.std.proofs.lemmas.Bool.Decides.{nat_tests}
use Rattle.std.proofs.lemmas.List.Sorted.{ranks_by}
use Rattle.dns_zone.proofs.OrderLaws.{begins_behind, begins_between}
use Rattle.dns_zone.proofs.PathLaws.{le_true}
use Rattle.dns_zone_tree.specs.Nodes.{begins, is_below, key_of}
use Rattle.dns_zone_tree.specs.declared.names.Span.{Span}

strict : IsStrictWeakOrder (λ (p q : List ℕ). is_below p q)
strict = ranks_by nat_list_cmp_total (λ (k : List ℕ). k)

turned_lt : (o : Ordering) → is_lt (ordering_reverse o) ≡ is_gt o
turned_lt Less = refl
turned_lt Equal = refl
turned_lt Greater = refl

turned : (p q : List ℕ) → is_below q p ≡ is_gt (slice_cmp nat_cmp p q)
turned p q = ap is_lt (nat_list_cmp_total.antisymm q p) ∙ turned_lt (slice_cmp nat_cmp p q)

no_greater : (o : Ordering) → is_lt o ≡ true → is_gt o ≡ false
no_greater Less h = refl
no_greater Equal h = absurd (cc)
no_greater Greater h = absurd (cc)

tied : (o : Ordering) → is_lt o ≡ false → is_gt o ≡ false → is_eq o ≡ true
tied Less g h = absurd (cc)
tied Equal g h = refl
tied Greater g h = absurd (cc)

both_no : (o : Ordering) → (not (is_gt o) && not (is_lt o)) ≡ is_eq o
both_no Less = refl
both_no Equal = refl
both_no Greater = refl

true_by : (b : Bool) → (b ≡ false → ⊥) → b ≡ true
true_by true h = refl
true_by false h = absurd (h refl)

pub below_trans : (p q r : List ℕ) → is_below p q ≡ true → is_below q r ≡ true → is_below p r ≡ true
below_trans p q r a b = true_by (is_below p r) (λ e. true≢false (sym a ∙ strict.chain p r q e (strict.one_way q r b)))

own_below : (p : List ℕ) → is_below p p ≡ false
own_below p = false_from_ne_true (is_below p p) (λ e. true≢false (sym e ∙ strict.one_way p p e))

-- a key that isn't before another, and is another, is after it
pub next_below : (p q : List ℕ) → is_below q p ≡ false → bytes_eq p q ≡ false → is_below p q ≡ true
next_below p q h n =
    true_by (is_below p q) (λ e. true≢false (sym (tied (slice_cmp nat_cmp p q) e (sym (turned p q) ∙ h)) ∙ (sym (texts_ties p q) ∙ n)))

pub below_other : (p q : List ℕ) → is_below p q ≡ true → bytes_eq q p ≡ false
below_other p q h =
    false_from_ne_true (bytes_eq q p) (λ e. true≢false (sym h ∙ (ap (λ (k : List ℕ). is_below p k) ((bytes_decides q p).0 e) ∙ own_below p)))

-- keys that aren't before one another are the same
pub ties_same : (p q : List ℕ) → (not (is_below p q) && not (is_below q p)) ≡ bytes_eq q p
ties_same p q =
    ap (λ (b : Bool). not b && not (is_below q p)) (turned q p) ∙ (both_no (slice_cmp nat_cmp q p) ∙ sym (texts_ties q p))

-- ---- keys that begin with octets

pub same_begins : (p k : List ℕ) → bytes_eq k p ≡ true → begins p k ≡ true
same_begins p k h =
    ap (λ (x : List ℕ). begins p x) ((bytes_decides k p).0 h) ∙ (bytes_decides p (take (length p) p)).1 (sym (take_all (length p) p (omega arith)))

-- aren't before them
pub begins_not_below : (p k : List ℕ) → begins p k ≡ true → is_below k p ≡ false
begins_not_below p k h = turned p k ∙ begins_behind p k h

-- and what stands between begins with them too
pub begins_amid : (p m k : List ℕ) → is_below m p ≡ false → is_below m k ≡ true → begins p k ≡ true → begins p m ≡ true
begins_amid p m k g h b = begins_between p m k (sym (turned p m) ∙ g) (no_greater (slice_cmp nat_cmp m k) h) b

-- ---- what is read as a key

le_false : (a b : ℕ) → b < a → nat_le a b ≡ false
le_false a b h = grind (arith, nat_tests)

pub key_read : (o : List ℕ) (s : Span) (k : List ℕ) → s.start ≤ s.end → s.end ≤ length o → k ≡ slice_range o s.start s.end → k ≡ key_of o s
key_read o s k a b e =
    e
    ∙ sym (ap (λ (c : Bool). if c && nat_le s.end (length o) then slice_range o s.start s.end else []) (le_true s.start s.end a)
    ∙ ap (λ (c : Bool). if c then slice_range o s.start s.end else []) (le_true s.end (length o) b))

none_read : (b : Bool) (k : List ℕ) → (if b && false then k else []) ≡ []
none_read true k = refl
none_read false k = refl

pub key_unread : (o : List ℕ) (s : Span) → (s.end < s.start) ⊎ (length o < s.end) → [] ≡ key_of o s
key_unread o s (inl h) = sym (ap (λ (c : Bool). if c && nat_le s.end (length o) then slice_range o s.start s.end else []) (le_false s.start s.end h))
key_unread o s (inr h) =
    sym (ap (λ (c : Bool). if nat_le s.start s.end && c then slice_range o s.start s.end else []) (le_false s.end (length o) h)
    ∙ none_read (nat_le s.start s.end) (slice_range o s.start s.end))
