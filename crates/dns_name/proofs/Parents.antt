-- The octets of the names that a name lies under.
use Rattle.std.proofs.Common.{◌≡◌, ℕ, ◌+◌, ◌-◌, ◌≤◌, List, [], ◌∷◌, ◌++◌, length, drop, Some, None, sym, subst, ap, ◌∙◌, arith, length-append}
use Rattle.std.proofs.lemmas.List.{drop-drop, drop_all}
use Rattle.dns_name.specs.Labels.{spell, IsName, parent_of}
use Rattle.dns_name.specs.Names.{IsSpelt, labels_of, uncompressed_at}
use Rattle.dns_name.proofs.Spelt.{behind, further, is_spelt, labels_alone}

-- the labels after the first are a name's
name_behind : (l : List ℕ) (ls : List (List ℕ)) → IsName (l ∷ ls) → IsName ls
name_behind l ls n = record { labels = n.labels.2; room = omega (arith, n.room, length-append l (spell ls)) }

-- the first label and its length lie within the octets
pub label_within : (o l : List ℕ) (ls rest : List (List ℕ)) → o ≡ spell ls → ls ≡ l ∷ rest → length l + 1 ≤ length o
label_within o l ls rest e h =
    let s : o ≡ length l ∷ (l ++ spell rest) = e ∙ ap spell h in
    omega (arith, ap length s, length-append l (spell rest))

-- the octets after them are the name of the other labels
pub octets_behind : (o l : List ℕ) (ls rest : List (List ℕ)) → o ≡ spell ls → ls ≡ l ∷ rest → drop (length l + 1) o ≡ spell rest
octets_behind o l ls rest e h =
    let s : o ≡ length l ∷ (l ++ spell rest) = e ∙ ap spell h in
    let n : length l + 1 ≡ 0 + length l + 1 = omega arith in
    ap (λ k. drop k o) n ∙ further o 0 l (spell rest) (behind o 0 (length l) (l ++ spell rest) s)

pub parent_spelt : (o p l : List ℕ) (ls rest : List (List ℕ)) → o ≡ spell ls → IsName ls → ls ≡ l ∷ rest → p ≡ drop (length l + 1) o → IsSpelt p × (labels_of (uncompressed_at p 0) ≡ rest)
parent_spelt o p l ls rest e n h q =
    let named : IsName rest = name_behind l rest (let P : List (List ℕ) → Type 0 = λ x. IsName x in subst P h n) in
    let spelt : p ≡ spell rest = q ∙ octets_behind o l ls rest e h in
    (is_spelt rest p spelt named, labels_alone rest p spelt named)

-- one label more is skipped
pub one_behind : (name parent all : List (List ℕ)) (i : ℕ) → Some parent ≡ parent_of name → name ≡ drop i all → parent ≡ drop (i + 1) all
one_behind [] parent all i h e = absurd (cc)
one_behind (l ∷ name) parent all i h e =
    let p : parent ≡ name = cc in
    p ∙ (ap (drop 1) e ∙ drop-drop 1 i all)

none_more : (k i : ℕ) (all : List (List ℕ)) → i ≤ k → drop i all ≡ [] → drop k all ≡ []
none_more k i all h e =
    let n : i + (k - i) ≡ k = omega arith in
    ap (λ m. drop m all) (sym n) ∙ (sym (drop-drop (k - i) i all) ∙ (ap (drop (k - i)) e ∙ drop_all (k - i) [] (omega arith)))

-- after the last label is the root
pub root_behind : (name all : List (List ℕ)) (i k : ℕ) → None ≡ parent_of name → name ≡ drop i all → i ≤ k → name ≡ drop k all
root_behind [] all i k h e q = sym (none_more k i all q (sym e))
root_behind (l ∷ name) all i k h e q = absurd (cc)
