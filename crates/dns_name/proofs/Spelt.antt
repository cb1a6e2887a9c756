-- A name that is spelt is read again.
use Rattle.std.proofs.Common.{Bool, ◌≡◌, ℕ, zero, suc, ◌+◌, ◌-◌, ◌≤◌, ◌<◌, List, [], ◌∷◌, ◌++◌, length, drop, take, Ok, refl, ap, sym, subst, ◌∙◌, arith, true, false, if◌then◌else◌, nat_eq, length-append, append_assoc, append-nil}
use Rattle.std.proofs.lemmas.List.{drop-drop}
use Rattle.std.proofs.Math.Seq.{take-append_seam, drop-append_seam}
use Rattle.std.proofs.lemmas.Bool.Decides.{nat_tests}
use Rattle.dns_name.specs.declared.piece.Piece.TheVariants.{End, Text}
use Rattle.dns_name.specs.declared.piece.NameBounds.{NameBounds}
use Rattle.dns_name.specs.Labels.{spell, AreLabels, IsName}
use Rattle.dns_name.specs.Names.{near, name_piece, name_piece_of, rest_of, name_by, name_at, uncompressed_at, IsSpelt, labels_of}
use Rattle.dns_name.proofs.Walks.{rest_unrolled, rest_text}

text_here : (b : Bool) (at n : ℕ) (more : List ℕ) → 0 < n → n < 64 → n ≤ length more → name_piece_of b at (n ∷ more) ≡ Ok (Text n)
text_here b at n more p q r = grind (arith, nat_tests)

pub piece_end : (r : NameBounds) (hops : ℕ) (o : List ℕ) (at : ℕ) (more : List ℕ) → drop at (near r.limit hops o) ≡ 0 ∷ more → name_piece r hops o at ≡ Ok End
unfolding name_piece
piece_end r hops o at more h = rw h refl

pub piece_text : (r : NameBounds) (hops : ℕ) (o : List ℕ) (at n : ℕ) (more : List ℕ) → drop at (near r.limit hops o) ≡ n ∷ more → 0 < n → n < 64 → n ≤ length more → name_piece r hops o at ≡ Ok (Text n)
unfolding name_piece
piece_text r hops o at n more h p q s = rw h (text_here r.pointers at n more p q s)

pub behind : (o : List ℕ) (at n : ℕ) (more : List ℕ) → drop at o ≡ n ∷ more → drop (at + 1) o ≡ more
behind o at n more h = sym (drop-drop 1 at o) ∙ ap (drop 1) h

pub further : (o : List ℕ) (at : ℕ) (l more : List ℕ) → drop (at + 1) o ≡ l ++ more → drop (at + length l + 1) o ≡ more
further o at l more h =
    let e : at + length l + 1 ≡ at + 1 + length l = omega arith in
    rw e (sym (drop-drop (length l) (at + 1) o) ∙ (ap (drop (length l)) h ∙ drop-append_seam l more))

pub length_spell : (ls : List (List ℕ)) → 1 ≤ length (spell ls)
length_spell [] = omega arith
length_spell (l ∷ ls) = omega arith

-- octets that stand before a limit stand in all
take_prefix : (l more : List ℕ) (n : ℕ) (o : List ℕ) → take n o ≡ l ++ more → take (length l) o ≡ l
take_prefix [] more n o h = refl
take_prefix (x ∷ l) more zero o h = absurd (cc)
take_prefix (x ∷ l) more (suc n) [] h = absurd (cc)
take_prefix (x ∷ l) more (suc n) (y ∷ o) h =
    let a : y ≡ x = cc in
    let b : take n o ≡ l ++ more = cc in
    let k = take_prefix l more n o b in
    cc

take_none : (k : ℕ) → take {A = ℕ} k [] ≡ []
take_none zero = refl
take_none (suc k) = refl

drop_take : (at n : ℕ) (o : List ℕ) → drop at (take n o) ≡ take (n - at) (drop at o)
drop_take zero n o = let e : n - 0 ≡ n = omega arith in ap (λ k. take k o) (sym e)
drop_take (suc at) zero [] = sym (take_none (0 - suc at))
drop_take (suc at) zero (x ∷ o) = let e : 0 - suc at ≡ 0 = omega arith in rw e refl
drop_take (suc at) (suc n) [] = sym (take_none (suc n - suc at))
drop_take (suc at) (suc n) (x ∷ o) = let e : suc n - suc at ≡ n - at = omega arith in rw e (drop_take at n o)

pub seen_prefix : (b : Bool) (limit at : ℕ) (l more o : List ℕ) → drop at (if b then take limit o else o) ≡ l ++ more → take (length l) (drop at o) ≡ l
seen_prefix true limit at l more o h = take_prefix l more (limit - at) (drop at o) (sym (drop_take at limit o) ∙ h)
seen_prefix false limit at l more o h = rw h (take-append_seam l more)

-- what is seen at a place stands there
pub near_prefix : (limit hops at : ℕ) (l more o : List ℕ) → drop at (near limit hops o) ≡ l ++ more → take (length l) (drop at o) ≡ l
near_prefix limit hops at l more o h = seen_prefix (nat_eq hops 0) limit at l more o h

-- labels that are seen at a place are read there
pub rest_spelt : (ls : List (List ℕ)) (r : NameBounds) (o more : List ℕ) (at size hops : ℕ) → drop at (near r.limit hops o) ≡ spell ls ++ more → AreLabels ls → size + length (spell ls) ≤ 255 →
    rest_of o r at size hops ≡ Ok (ls, at + length (spell ls))
rest_spelt [] r o more at size hops h a s = rw (rest_unrolled o r at size hops, piece_end r hops o at more h) refl
rest_spelt (l ∷ ls) r o more at size hops h a s =
    let v = near r.limit hops o in
    let g : drop at v ≡ length l ∷ (l ++ (spell ls ++ more)) = h ∙ ap (λ t. length l ∷ t) (append_assoc l (spell ls) more) in
    let k = length-append l (spell ls) in
    let k' = length-append l (spell ls ++ more) in
    let t = behind v at (length l) (l ++ (spell ls ++ more)) g in
    let p = piece_text r hops o at (length l) (l ++ (spell ls ++ more)) g a.0 a.1 (omega arith) in
    let q : size + length l + 2 ≤ 255 = omega (arith, length_spell ls) in
    let ih = rest_spelt ls r o more (at + length l + 1) (size + length l + 1) hops (further v at l (spell ls ++ more) t) a.2 (omega arith) in
    let e : at + length l + 1 + length (spell ls) ≡ at + length (spell (l ∷ ls)) = omega arith in
    let f : take (length l) (drop (at + 1) o) ≡ l = near_prefix r.limit hops (at + 1) l (spell ls ++ more) o t in
    rw (rest_text o r at size hops (length l) p q, ih, f) (ap (λ x. Ok (l ∷ ls, x)) e)

pub take_all : (o : List ℕ) → take (length o) o ≡ o
take_all [] = refl
take_all (x ∷ o) = ap (λ t. x ∷ t) (take_all o)

-- a name that is written at a place is read there
pub name_spelt : (ls : List (List ℕ)) (o more : List ℕ) (at : ℕ) → drop at o ≡ spell ls ++ more → IsName ls → name_at o at ≡ Ok (ls, at + length (spell ls))
unfolding name_by
name_spelt ls o more at h n = rest_spelt ls (record { limit = length o; pointers = true }) o more at 0 0 (rw (take_all o) h) n.labels n.room

pub plain_spelt : (ls : List (List ℕ)) (o more : List ℕ) (at : ℕ) → drop at o ≡ spell ls ++ more → IsName ls → uncompressed_at o at ≡ Ok (ls, at + length (spell ls))
unfolding name_by
plain_spelt ls o more at h n = rest_spelt ls (record { limit = length o; pointers = false }) o more at 0 0 (rw (take_all o) h) n.labels n.room

-- a written name on its own
pub spelt_alone : (ls : List (List ℕ)) → IsName ls → uncompressed_at (spell ls) 0 ≡ Ok (ls, length (spell ls))
spelt_alone ls n =
    let e : drop 0 (spell ls) ≡ spell ls ++ [] = grind (arith, append-nil {A = ℕ}) in
    plain_spelt ls (spell ls) [] 0 e n ∙ ap (λ x. Ok (ls, x)) (omega arith)

pub labels_alone : (ls : List (List ℕ)) (o : List ℕ) → o ≡ spell ls → IsName ls → labels_of (uncompressed_at o 0) ≡ ls
labels_alone ls o e n = rw (e, spelt_alone ls n) refl

pub is_spelt : (ls : List (List ℕ)) (o : List ℕ) → o ≡ spell ls → IsName ls → IsSpelt o
is_spelt ls o e n = subst IsSpelt (sym e) (let a = spelt_alone ls n in record { readable = rw a refl; name = rw a n; whole = rw a refl })
