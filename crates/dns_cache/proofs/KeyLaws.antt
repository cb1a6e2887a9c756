-- Requests that have a key, and names by their octets in lower case.
use Rattle.std.proofs.Common.{◌≡◌, ◌==◌, ℕ, suc, ◌<◌, Bool, true, false, ◌&&◌, not, List, [], ◌∷◌, ◌++◌, length, map, Option, Some, None, Ok, Err, refl, ap, sym, ◌∙◌, arith}
use Rattle.std.proofs.lemmas.Bool.Decides.{nat_tests}
use Rattle.std.proofs.lemmas.List.{map-append}
use Rattle.std.specs.Char.{to_ascii_lowercase}
use Rattle.std.specs.Prelude.{nat_eq, option_map, if◌then◌else◌}
use Rattle.std.specs.Cmp.{both_ways, first_so, second_so, unsigned_Decides}
use Rattle.std.specs.Cmp.Lexicographic.{bytes_decides, pointwise, pointwise_decides}
use Rattle.std.specs.Str.{bytes_eq}
use borrow.Author.Tests.{eqb-true}
use Rattle.dns_name.specs.Labels.{AreLabels, IsName, folded, spell}
use Rattle.dns_name.specs.Names.{IsSpelt, labels_of, uncompressed_at}
use Rattle.dns_name.specs.Place.{Read}
use Rattle.dns_message.specs.declared.question.Question.{Question}
use Rattle.dns_base.specs.Header.{header_of}
use Rattle.dns_message.specs.Read.{question_at}
use Rattle.dns_base.specs.Sections.{Items, by_item, field, first_of, items_from, questions_of}
use Rattle.dns_opt.specs.OptRecords.{opt_of}
use Rattle.dns_cache.specs.Keys.{AskedKey, AsksOnce, asks_once, key_of, names_subnet, question_key, wants_dnssec}

one_item : (one : ℕ → Read Question) (at : ℕ) (q : Question) → first_of (items_from one 1 at).0 ≡ Some q → (items_from one 1 at).0 ≡ q ∷ []
one_item one at q h = by_read (one at) h
  where
    by_read : (x : Read Question) → first_of (by_item (items_from one 0) x).0 ≡ Some q → (by_item (items_from one 0) x).0 ≡ q ∷ []
    by_read (Ok (p, end)) g = cc
    by_read (Err e) g = cc

one_question : (o : List ℕ) (q : Question) → field 4 o ≡ 1 → first_of (questions_of o).0 ≡ Some q → (questions_of o).0 ≡ q ∷ []
unfolding questions_of
one_question o q n h =
    let e : items_from (question_at o) (field 4 o) 12 ≡ items_from (question_at o) 1 12 = ap (λ k. items_from (question_at o) k 12) n in
    ap (λ (i : Items Question). i.0) e ∙ one_item (question_at o) 12 q (ap (λ (i : Items Question). first_of i.0) (sym e) ∙ h)

asked_some : (x : Option Question) (ok : Bool) (key : AskedKey) → option_map (question_key ok) x ≡ Some key → (q : Question) × (x ≡ Some q)
asked_some None ok key h = cc
asked_some (Some q) ok key h = (q, refl)

asked_by : (o : List ℕ) (b : Bool) (key : AskedKey) → (asks_once o && not (names_subnet (opt_of o))) ≡ b → (if b then option_map (question_key (wants_dnssec (opt_of o))) (first_of (questions_of o).0) else None) ≡ Some key → AsksOnce o
asked_by o true key t h =
    let a : asks_once o ≡ true = first_so (asks_once o) (not (names_subnet (opt_of o))) t in
    let n : field 4 o ≡ 1 = eqb-true (field 4 o) 1 (second_so (nat_eq (header_of o).opcode 0) (nat_eq (field 4 o) 1) a) in
    let q = asked_some (first_of (questions_of o).0) (wants_dnssec (opt_of o)) key h in
    (q.0, one_question o q.0 n q.1)
asked_by o false key t h = cc

-- a request that has a key has one question
pub key_asks_once : (o : List ℕ) (key : AskedKey) → key_of o ≡ Some key → AsksOnce o
key_asks_once o key h = asked_by o (asks_once o && not (names_subnet (opt_of o))) key refl h

-- and that is the first one
pub asks_this : (o : List ℕ) (q : Question) → AsksOnce o → first_of (questions_of o).0 ≡ Some q → (questions_of o).0 ≡ q ∷ []
asks_this o q once h =
    let same : Some once.0 ≡ Some q = sym (ap first_of once.1) ∙ h in
    let is : once.0 ≡ q = cc in
    once.1 ∙ ap (λ (x : Question). x ∷ []) is

-- ---- names in lower case

-- no length is a letter
small : (n : ℕ) → n < 64 → to_ascii_lowercase n ≡ n
small n h = grind (arith, nat_tests)

length_lower : (l : List ℕ) → length (map to_ascii_lowercase l) ≡ length l
length_lower [] = refl
length_lower (x ∷ l) = ap suc (length_lower l)

pub spelt_lower : (ls : List (List ℕ)) → AreLabels ls → map to_ascii_lowercase (spell ls) ≡ spell (folded ls)
spelt_lower [] h = refl
spelt_lower (l ∷ ls) h =
    let first = small (length l) h.1 ∙ sym (length_lower l) in
    let more = map-append to_ascii_lowercase l (spell ls) ∙ ap (λ r. map to_ascii_lowercase l ++ r) (spelt_lower ls h.2) in
    λ i. first i ∷ more i

folded_labels : (ls : List (List ℕ)) → AreLabels ls → AreLabels (folded ls)
folded_labels [] h = tt
folded_labels (l ∷ ls) h = (omega (arith, length_lower l, h.0), omega (arith, length_lower l, h.1), folded_labels ls h.2)

-- a name in lower case is a name
pub folded_name : (ls : List (List ℕ)) → IsName ls → IsName (folded ls)
folded_name ls n =
    let e : length (spell (folded ls)) ≡ length (spell ls) = ap length (sym (spelt_lower ls n.labels)) ∙ length_lower (spell ls) in
    record { labels = folded_labels ls n.labels; room = omega (arith, e, n.room) }

-- ---- keys by the octets of their names

-- names are the same exactly if their octets are
pub same_octets : (o p : List ℕ) → IsSpelt o → IsSpelt p → bytes_eq o p ≡ pointwise (pointwise ◌==◌) (labels_of (uncompressed_at o 0)) (labels_of (uncompressed_at p 0))
same_octets o p h g =
    let x = bytes_decides o p in
    let y = pointwise_decides (pointwise_decides unsigned_Decides) (labels_of (uncompressed_at o 0)) (labels_of (uncompressed_at p 0)) in
    both_ways _ _ (λ t. y.1 (ap (λ (l : List ℕ). labels_of (uncompressed_at l 0)) (x.0 t))) (λ t. x.1 (h.whole ∙ (ap spell (y.0 t) ∙ sym g.whole)))
