-- When names are the same, and what they are hashed by.
use Rattle.std.proofs.Common.{◌≡◌, ℕ, ◌<◌, ◌≤◌, Bool, suc, ◌↔◌, List, [], ◌∷◌, ◌++◌, length, take, map, fold, flat_map, refl, sym, ap, ◌∙◌, arith}
use Rattle.std.proofs.lemmas.Bool.Decides.{nat_tests, same_from_decides}
use Rattle.std.proofs.lemmas.List.{map-append, take_all}
use Rattle.std.specs.Bool.{IsTrue}
use Rattle.std.specs.Char.{to_ascii_lowercase}
use Rattle.std.specs.Hash as fed
use Rattle.dns_name.specs.Canonical.{name_writes, same_name, same_name_Decides}
use Rattle.dns_name.specs.Labels.{AreLabels, IsName, folded, spell}
use Rattle.dns_name.specs.Names.{labels_of, uncompressed_at}
use Rattle.dns_name.proofs.Spelt.{labels_alone}

pub is_same_name : (r : Bool) (a b : List (List ℕ)) → (IsTrue r ↔ (folded a ≡ folded b)) → r ≡ same_name a b
is_same_name r a b h = same_from_decides r (same_name a b) h (same_name_Decides a b)

pub is_same_name_by : (r : Bool) (a b c d : List (List ℕ)) → c ≡ a → d ≡ b → (IsTrue r ↔ (folded c ≡ folded d)) → r ≡ same_name a b
is_same_name_by r a b c d e f h = is_same_name r c d h ∙ (λ i. same_name (e i) (f i))

-- no length is a letter
small : (n : ℕ) → n < 64 → to_ascii_lowercase n ≡ n
small n h = grind (arith, nat_tests)

length_lower : (l : List ℕ) → length (map to_ascii_lowercase l) ≡ length l
length_lower [] = refl
length_lower (x ∷ l) = ap suc (length_lower l)

spelt_lower : (ls : List (List ℕ)) → AreLabels ls → map to_ascii_lowercase (spell ls) ≡ spell (folded ls)
spelt_lower [] h = refl
spelt_lower (l ∷ ls) h =
    let first = small (length l) h.1 ∙ sym (length_lower l) in
    let more = map-append to_ascii_lowercase l (spell ls) ∙ ap (λ r. map to_ascii_lowercase l ++ r) (spelt_lower ls h.2) in
    λ i. first i ∷ more i

folded_labels : (ls : List (List ℕ)) → AreLabels ls → AreLabels (folded ls)
folded_labels [] h = tt
folded_labels (l ∷ ls) h = (omega (arith, length_lower l, h.0), omega (arith, length_lower l, h.1), folded_labels ls h.2)

-- a name in lower case is a name
folded_name : (ls : List (List ℕ)) → IsName ls → IsName (folded ls)
folded_name ls n =
    let e : length (spell (folded ls)) ≡ length (spell ls) = ap length (sym (spelt_lower ls n.labels)) ∙ length_lower (spell ls) in
    record { labels = folded_labels ls n.labels; room = omega (arith, e, n.room) }

-- names that are spelt alike are the same
spelt_once : (a b : List (List ℕ)) → IsName a → IsName b → spell a ≡ spell b → a ≡ b
spelt_once a b m n e = sym (labels_alone a (spell a) refl m) ∙ (ap (λ o. labels_of (uncompressed_at o 0)) e ∙ labels_alone b (spell b) refl n)

-- names are the same up to ASCII case exactly if their octets are
pub same_by_octets : (r : Bool) (o p : List ℕ) (a b : List (List ℕ)) → o ≡ spell a → p ≡ spell b → IsName a → IsName b → (IsTrue r ↔ (map to_ascii_lowercase o ≡ map to_ascii_lowercase p)) → (IsTrue r ↔ (folded a ≡ folded b))
same_by_octets r o p a b d e m n h =
    let x : map to_ascii_lowercase o ≡ spell (folded a) = ap (map to_ascii_lowercase) d ∙ spelt_lower a m.labels in
    let y : map to_ascii_lowercase p ≡ spell (folded b) = ap (map to_ascii_lowercase) e ∙ spelt_lower b n.labels in (
      λ t. spelt_once (folded a) (folded b) (folded_name a m) (folded_name b n) (sym x ∙ (h.0 t ∙ y)),
      λ t. h.1 (x ∙ (ap spell t ∙ sym y)),
    )

pub all_fed : {S : Type 0} (write : S → List ℕ → S) (before first after : S) (i : ℕ) (octets : List ℕ) (ls : List (List ℕ)) → octets ≡ spell ls → IsName ls → length octets ≤ i → first ≡ write before (fed.le_bytes 8 (length octets)) → after ≡ fold write first (flat_map fed.u8 (map to_ascii_lowercase (take i octets))) → after ≡ fold write before (name_writes ls)
all_fed write before first after i octets ls spelt named all start fed_so_far =
    let lower : map to_ascii_lowercase octets ≡ spell (folded ls) = ap (map to_ascii_lowercase) spelt ∙ spelt_lower ls named.labels in
    let long : length octets ≡ length (spell (folded ls)) = sym (length_lower octets) ∙ ap length lower in
    fed_so_far
    ∙ (ap (λ l. fold write first (flat_map fed.u8 (map to_ascii_lowercase l))) (take_all i octets all)
    ∙ (ap (λ l. fold write first (flat_map fed.u8 l)) lower
    ∙ (ap (λ s. fold write s (flat_map fed.u8 (spell (folded ls)))) start
    ∙ ap (λ n. fold write (write before (fed.le_bytes 8 n)) (flat_map fed.u8 (spell (folded ls)))) long)))
