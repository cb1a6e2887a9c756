-- Uncompressed names that octets, or a part of them, are.
use Rattle.std.proofs.Common.{◌≡◌, ℕ, ◌+◌, ◌-◌, ◌≤◌, ◌<◌, List, [], ◌∷◌, ◌++◌, length, drop, take, Ok, Err, refl, ap, sym, ◌∙◌, arith, false, length-append, append-nil}
use Rattle.std.proofs.lemmas.List.{length-take-le}
use Rattle.std.proofs.Math.Seq.{take-append_seam}
use Rattle.std.proofs.lemmas.Bool.Decides.{nat_tests}
use Rattle.dns_name.specs.declared.error.ParseError.{ParseError}
use Rattle.dns_name.specs.declared.error.ParseError.TheVariants.{Form}
use Rattle.dns_name.specs.declared.error.FormReason.TheVariants.{Trailing}
use Rattle.dns_name.specs.declared.piece.NameBounds.{NameBounds}
use Rattle.dns_name.specs.Place.{Read}
use Rattle.dns_name.specs.Labels.{spell}
use Rattle.dns_name.specs.Names.{CanGoOn, name_by, uncompressed_at, uncompressed, read_whole, labels_of, end_of, IsSpelt}
use Rattle.dns_name.proofs.Grammars.{plain_read}
use Rattle.dns_name.proofs.Spelt.{labels_alone, is_spelt}

-- what ends at a place is read
pub ended : (r : Read (List (List ℕ))) (e : ℕ) → end_of r ≡ Ok e → r ≡ Ok (labels_of r, e)
ended (Ok x) e h = ap (λ n. Ok (x.0, n)) (let k : x.1 ≡ e = cc in k)
ended (Err x) e h = absurd (cc)

not_read : (r : Read (List (List ℕ))) (x : ParseError) → end_of r ≡ Err x → r ≡ Err x
not_read (Ok y) x h = absurd (cc)
not_read (Err y) x h = cc

-- octets after which nothing is left
alone : (s more o : List ℕ) → o ≡ s ++ more → length o ≤ length s → o ≡ s
alone s [] o e h = e ∙ append-nil s
alone s (x ∷ more) o e h = absurd (omega (arith, ap length e, length-append s (x ∷ more)))

whole_read : (o : List ℕ) (r : Read (List (List ℕ))) (ls : List (List ℕ)) (e : ℕ) → r ≡ Ok (ls, e) → length o ≤ e → read_whole o r ≡ Ok ls
whole_read o r ls e h k = rw h (grind (arith, nat_tests))

part_read : (o : List ℕ) (r : Read (List (List ℕ))) (ls : List (List ℕ)) (e : ℕ) → r ≡ Ok (ls, e) → e < length o → read_whole o r ≡ Err (Form Trailing)
part_read o r ls e h k = rw h (grind (arith, nat_tests))

pub whole_refused : (o : List ℕ) (x : ParseError) → end_of (uncompressed_at o 0) ≡ Err x → uncompressed o ≡ Err x
whole_refused o x h = rw (not_read (uncompressed_at o 0) x h) refl

pub whole_trailing : (o : List ℕ) (e : ℕ) → end_of (uncompressed_at o 0) ≡ Ok e → e < length o → uncompressed o ≡ Err (Form Trailing)
whole_trailing o e h k = part_read o (uncompressed_at o 0) _ e (ended (uncompressed_at o 0) e h) k

pub whole_spelt : (o : List ℕ) (e : ℕ) → end_of (uncompressed_at o 0) ≡ Ok e → length o ≤ e → IsSpelt o × (uncompressed o ≡ Ok (labels_of (uncompressed_at o 0)))
whole_spelt o e h k =
    let r = uncompressed_at o 0 in
    let g = ended r e h in
    let p = plain_read o 0 (labels_of r) e g in
    let q : e ≡ 0 + length (spell (labels_of r)) = p.ends in
    let a : drop 0 o ≡ o = refl in
    (record { readable = rw g refl; name = p.name; whole = alone (spell (labels_of r)) p.more o p.spelt (omega arith) }, whole_read o r (labels_of r) e g k)

pub part_refused : (o : List ℕ) (at : ℕ) (x : ParseError) → end_of (uncompressed_at o at) ≡ Err x → uncompressed_at o at ≡ Err x
part_refused o at x h = not_read (uncompressed_at o at) x h

pub part_spelt : (o part : List ℕ) (at e : ℕ) → end_of (uncompressed_at o at) ≡ Ok e → part ≡ take (e - at) (drop at o) → IsSpelt part × (uncompressed_at o at ≡ Ok (labels_of (uncompressed_at part 0), e)) × (at ≤ e)
part_spelt o part at e h k =
    let r = uncompressed_at o at in
    let g = ended r e h in
    let p = plain_read o at (labels_of r) e g in
    let n : e - at ≡ length (spell (labels_of r)) = omega (arith, p.ends) in
    let s : part ≡ spell (labels_of r) = k ∙ (ap (λ i. take i (drop at o)) n ∙ (ap (take (length (spell (labels_of r)))) p.spelt ∙ take-append_seam (spell (labels_of r)) p.more)) in
    (is_spelt (labels_of r) part s p.name, g ∙ ap (λ ls. Ok (ls, e)) (sym (labels_alone (labels_of r) part s p.name)), omega (arith, p.ends))

-- a name on its own is read from its start
pub spelt_on : (o : List ℕ) → IsSpelt o → CanGoOn o (record { limit = length o; pointers = false }) 0 0 0
unfolding name_by
spelt_on o s = record { within = omega arith; limited = omega arith; sized = omega arith; jumped = omega arith; readable = s.readable }

-- a name that is read is read from its start
pub read_on : (o : List ℕ) (r : NameBounds) (at e : ℕ) → end_of (name_by o r at) ≡ Ok e → at ≤ r.limit → r.limit ≤ length o → CanGoOn o r at 0 0
unfolding name_by
read_on o r at e h a l = record { within = omega (arith, length-take-le r.limit o l); limited = l; sized = omega arith; jumped = omega arith; readable = rw (ended _ e h) refl }

read_end : (o : List ℕ) (r : Read (List (List ℕ))) (ls : List (List ℕ)) → read_whole o r ≡ Ok ls → (e : ℕ) × (end_of r ≡ Ok e) × (length o ≤ e)
read_end o (Ok x) ls h = (x.1, refl, grind (arith, nat_tests))
read_end o (Err x) ls h = absurd (cc)

-- octets that are read whole are a name and no more
pub read_spelt : (o : List ℕ) (ls : List (List ℕ)) → uncompressed o ≡ Ok ls → IsSpelt o
read_spelt o ls h = let e = read_end o (uncompressed_at o 0) ls h in (whole_spelt o e.0 e.1 e.2).0
