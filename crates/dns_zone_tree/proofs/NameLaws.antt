-- Names that end with others, and the key of a wildcard.
use Rattle.std.proofs.Common.{◌≡◌, ℕ, ◌+◌, ◌-◌, ◌≤◌, true, List, [], ◌∷◌, ◌++◌, length, drop, get_or, nat_le, ap, sym, ◌∙◌, arith, append_assoc}
use Rattle.std.proofs.lemmas.List.{drop_more}
use Rattle.dns_name.specs.Canonical.{same_name}
use Rattle.dns_order.specs.Keys.{canonical_key}
use Rattle.dns_order.proofs.KeyLaws.{keys_begin_alike}
use Rattle.dns_route.specs.Routes.{ends_name}
use Rattle.dns_zone.proofs.PathLaws.{both_true, first_true, le_true, same_length, second_true, true_le}
use Rattle.dns_zone_tree.specs.Wildcards.{star}

pub ends_self : (a q : List (List ℕ)) → same_name a q ≡ true → ends_name a q ≡ true
ends_self a q h =
    let n : length a ≡ length q = same_length a q h in
    let k : length a - length q ≡ 0 = omega (arith, n) in
    both_true (nat_le (length q) (length a)) (same_name (drop (length a - length q) a) q) (le_true (length q) (length a) (omega (arith, n))) (ap (λ (i : ℕ). same_name (drop i a) q) k ∙ h)

-- what ends with a name ends with the name after its first label
pub ends_shorter : (o : List (List ℕ)) (l : List ℕ) (ls : List (List ℕ)) → ends_name o (l ∷ ls) ≡ true → ends_name o ls ≡ true
ends_shorter o l ls h =
    let k = length o - length (l ∷ ls) in
    let s : length (l ∷ ls) ≤ length o = true_le (length (l ∷ ls)) (length o) (first_true (nat_le (length (l ∷ ls)) (length o)) (same_name (drop k o) (l ∷ ls)) h) in
    let e : same_name (drop k o) (l ∷ ls) ≡ true = second_true (nat_le (length (l ∷ ls)) (length o)) (same_name (drop k o) (l ∷ ls)) h in
    let d : drop k o ≡ get_or o k [] ∷ drop (k + 1) o = drop_more o k [] (omega (arith, s)) in
    let f : same_name (get_or o k [] ∷ drop (k + 1) o) (l ∷ ls) ≡ true = sym (ap (λ (x : List (List ℕ)). same_name x (l ∷ ls)) d) ∙ e in
    let g : same_name (drop (k + 1) o) ls ≡ true = second_true _ (same_name (drop (k + 1) o) ls) f in
    let n : length o - length ls ≡ k + 1 = omega (arith, s) in
    both_true (nat_le (length ls) (length o)) (same_name (drop (length o - length ls) o) ls) (le_true (length ls) (length o) (omega (arith, s))) (ap (λ (i : ℕ). same_name (drop i o) ls) n ∙ g)

-- ---- the key of a wildcard

pub star_key : (above : List (List ℕ)) (k v w : List ℕ) → k ≡ canonical_key above → v ≡ k ++ 42 ∷ [] → w ≡ v ++ 0 ∷ [] → w ≡ canonical_key (star ∷ above)
star_key above k v w e f g =
    g ∙ (ap (λ (o : List ℕ). o ++ 0 ∷ []) f ∙ (append_assoc k (42 ∷ []) (0 ∷ []) ∙ (ap (λ (o : List ℕ). o ++ 42 ∷ 0 ∷ []) e ∙ sym (keys_begin_alike (star ∷ []) above))))
