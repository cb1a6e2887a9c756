-- The canonical order of names (RFC 4034, section 6.1): labels are compared from the last to the first, each as octets with ASCII
-- letters in lower case. A name without a label comes before those with one there.
use Rattle.std.specs.Prelude.{ℕ, ◌≡◌, ◌==◌, Bool, true, List, map, reverse}
use Rattle.std.specs.declared.cmp.Ordering.{Ordering}
use Rattle.std.specs.Bool.{Decides}
use Rattle.std.specs.Char.{to_ascii_lowercase}
use Rattle.std.specs.Cmp.{IsTotalOrder, IsEquivalence, IsPartialOrder, on_total, on_equiv, nat_cmp_total, nat_eq_equiv, partial_order_from_own_ties, partial_order_from_total, unsigned_Decides, unsigned_ties, both_ways}
use Rattle.std.specs.Cmp.Lexicographic.{slice_cmp, pointwise, pointwise_decides, lists_total, lists_equiv, lists_ties}
use Rattle.std.specs.Hash as fed
use Rattle.std.specs.Ordering.{nat_cmp, as_partial_cmp, eq_by_cmp}
use Rattle.std.proofs.Common.{sym, ap, ◌∙◌}
use Rattle.std.proofs.lemmas.List.{reverse-reverse}
use Rattle.dns_name.specs.Labels.{folded, spell}

-- a label as octets in lower case
abbrev pub label_cmp : List ℕ → List ℕ → Ordering
label_cmp a b = slice_cmp nat_cmp (map to_ascii_lowercase a) (map to_ascii_lowercase b)

-- labels in lower case, the last first
abbrev pub from_last : List (List ℕ) → List (List ℕ)
from_last ls = reverse (folded ls)

abbrev pub name_cmp : List (List ℕ) → List (List ℕ) → Ordering
name_cmp a b = slice_cmp (slice_cmp nat_cmp) (from_last a) (from_last b)

-- whether names are the same up to ASCII case
abbrev pub same_name : List (List ℕ) → List (List ℕ) → Bool
same_name a b = pointwise (pointwise ◌==◌) (folded a) (folded b)

pub name_cmp_total : IsTotalOrder name_cmp
name_cmp_total = on_total from_last (lists_total (lists_total nat_cmp_total))

pub same_name_equiv : IsEquivalence same_name
same_name_equiv = on_equiv folded (lists_equiv (lists_equiv nat_eq_equiv))

same_lists : (xs ys : List (List ℕ)) → Decides (pointwise (pointwise ◌==◌) xs ys) (xs ≡ ys)
same_lists = pointwise_decides (pointwise_decides unsigned_Decides)

pub same_name_Decides : (a b : List (List ℕ)) → Decides (same_name a b) (folded a ≡ folded b)
same_name_Decides a b = same_lists (folded a) (folded b)

turned : (xs ys : List (List ℕ)) → pointwise (pointwise ◌==◌) xs ys ≡ pointwise (pointwise ◌==◌) (reverse xs) (reverse ys)
turned xs ys =
    let d = same_lists xs ys in
    let e = same_lists (reverse xs) (reverse ys) in
    both_ways _ _ (λ h. e.1 (ap reverse (d.0 h))) (λ h. d.1 (sym (reverse-reverse xs) ∙ (ap reverse (e.0 h) ∙ reverse-reverse ys)))

-- names are the same exactly if neither comes first
pub same_name_ties : (a b : List (List ℕ)) → same_name a b ≡ eq_by_cmp name_cmp a b
same_name_ties a b = turned (folded a) (folded b) ∙ lists_ties (slice_cmp nat_cmp) (lists_ties nat_cmp unsigned_ties) (from_last a)
    (from_last b)

-- the canonical order leaves no two names without an answer
pub same_name_order : IsPartialOrder same_name (as_partial_cmp name_cmp)
same_name_order = partial_order_from_own_ties (partial_order_from_total name_cmp_total) same_name_ties

-- a name is hashed by its octets with ASCII letters in lower case
abbrev pub name_writes : List (List ℕ) → List (List ℕ)
name_writes ls = fed.slice fed.u8 (spell (folded ls))

-- names that are the same up to ASCII case hash alike
pub same_name_writes : (a b : List (List ℕ)) → same_name a b ≡ true → name_writes a ≡ name_writes b
same_name_writes a b h = ap (λ ls. fed.slice fed.u8 (spell ls)) ((same_name_Decides a b).0 h)
