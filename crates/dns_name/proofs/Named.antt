-- What is read as a name is one.
use Rattle.std.proofs.Common.{◌≡◌, ℕ, zero, suc, ◌+◌, ◌*◌, ◌≤◌, ◌<◌, List, [], ◌∷◌, length, drop, Ok, Err, Result, refl, arith, IsOk, IfOk, true, false, if◌then◌else◌, nat_lt, length-drop, length-append, length-take}
use Rattle.std.proofs.lemmas.List.{length-take-le}
use Rattle.std.proofs.lemmas.Bool.Decides.{nat_tests}
use Rattle.dns_name.specs.declared.error.ParseError.{ParseError}
use Rattle.dns_name.specs.declared.error.ParseError.TheVariants.{Form}
use Rattle.dns_name.specs.declared.error.FormReason.TheVariants.{LongName, Hops}
use Rattle.dns_name.specs.declared.piece.Piece.{Piece}
use Rattle.dns_name.specs.declared.piece.Piece.TheVariants.{End, Text, Jump}
use Rattle.dns_name.specs.Place.{Read}
use Rattle.dns_name.specs.declared.piece.NameBounds.{NameBounds}
use Rattle.dns_name.specs.Labels.{spell, AreLabels, FitBehind, IsName}
use Rattle.dns_name.specs.Names.{near, name_piece, with_label, with_end, by_piece, name_up_to, rest_of, name_by, labels_of, most}
use Rattle.dns_name.proofs.Walks.{text_within}

abbrev ReadsName : ℕ → Read (List (List ℕ)) → Type 0
ReadsName size r = IfOk r (λ x. FitBehind size x.0)

named_label : (size n : ℕ) (l : List ℕ) (r : Read (List (List ℕ))) → length l ≡ n → 0 < n → n < 64 → ReadsName (size + n + 1) r → ReadsName size (with_label l r)
named_label size n l (Err e) h p q f = tt
named_label size n l (Ok x) h p q f = record { labels = (omega arith, omega arith, f.labels); room = omega (arith, length-append l (spell x.0), f.room) }

named_text : (size n : ℕ) (l : List ℕ) (r : Read (List (List ℕ))) → length l ≡ n → 0 < n → n < 64 → (size + n + 2 ≤ 255 → ReadsName (size + n + 1) r) →
    ReadsName size (if nat_lt 255 (size + n + 2) then Err (Form LongName) else with_label l r)
named_text size n l r h p q f =
    elim (nat_lt 255 (size + n + 2)) as (λ b. (b ≡ false → size + n + 2 ≤ 255) → ReadsName size (if b then Err (Form LongName) else with_label l r))
    [ true ↦ λ g. tt | false ↦ λ g. named_label size n l r h p q (f (g refl)) ] (λ e. grind (arith, nat_tests))

named_end : (size e : ℕ) (r : Read (List (List ℕ))) → ReadsName size r → ReadsName size (with_end e r)
named_end size e (Err x) f = tt
named_end size e (Ok x) f = f

named_jump : (size hops e : ℕ) (r : Read (List (List ℕ))) → ReadsName size r → ReadsName size (if nat_lt 254 hops then Err (Form Hops) else with_end e r)
named_jump size hops e r f =
    elim (nat_lt 254 hops) as (λ b. ReadsName size (if b then Err (Form Hops) else with_end e r)) [ true ↦ tt | false ↦ named_end size e r f ]

named_piece : (go : ℕ → ℕ → ℕ → Read (List (List ℕ))) (o : List ℕ) (len at size hops : ℕ) (p : Result Piece ParseError) → size ≤ 254 → len ≤ length o →
    ((n : ℕ) → p ≡ Ok (Text n) → (0 < n) × (n < 64) × (at + n + 1 ≤ len)) →
    ((at' size' hops' : ℕ) → size' ≤ 254 → ReadsName size' (go at' size' hops')) →
    ReadsName size (by_piece go o at size hops p)
named_piece go o len at size hops (Err e) s q w f = tt
named_piece go o len at size hops (Ok End) s q w f = record { labels = tt; room = omega arith }
named_piece go o len at size hops (Ok (Text n)) s q w f =
    let k = w n refl in
    named_text size n _ _ (length-take-le n (drop (at + 1) o) (omega (arith, q, length-drop (at + 1) o))) k.0 k.1 (λ h. f (at + n + 1) (size + n + 1) hops (omega arith))
named_piece go o len at size hops (Ok (Jump t)) s q w f = named_jump size hops _ _ (f t size (hops + 1) s)

near_short : (limit hops : ℕ) (o : List ℕ) → length (near limit hops o) ≤ length o
near_short limit hops o = let e = length-take limit o in grind (arith, nat_tests)

named_up_to : (k : ℕ) (o : List ℕ) (r : NameBounds) (at size hops : ℕ) → size ≤ 254 → ReadsName size (name_up_to k o r at size hops)
named_up_to zero o r at size hops s = tt
named_up_to (suc k) o r at size hops s =
    named_piece (name_up_to k o r) o (length (near r.limit hops o)) at size hops (name_piece r hops o at) s (near_short r.limit hops o) (λ n h. text_within r hops o at n h) (λ a b c d. named_up_to k o r a b c d)

rest_named : (o : List ℕ) (r : NameBounds) (at size hops : ℕ) → size ≤ 254 → ReadsName size (rest_of o r at size hops)
unfolding rest_of
rest_named o r at size hops s = named_up_to (most size hops) o r at size hops s

labels_named : (size : ℕ) (r : Read (List (List ℕ))) → IsOk r → ReadsName size r → FitBehind size (labels_of r)
labels_named size (Ok x) h f = f
labels_named size (Err e) h f = cc

pub twice : (ls : List (List ℕ)) → AreLabels ls → 2 * length ls + 1 ≤ length (spell ls)
twice [] h = omega arith
twice (l ∷ ls) h = let e = twice ls h.2 in omega (arith, length-append l (spell ls))

-- a name that is read is a name
pub name_named : (o : List ℕ) (r : NameBounds) (at : ℕ) → IfOk (name_by o r at) (λ x. IsName x.0)
unfolding name_by
name_named o r at = rest_named o r at 0 0 (omega arith)

-- a name has at most 127 labels
pub name_labels : (o : List ℕ) (r : NameBounds) (at : ℕ) → IsOk (rest_of o r at 0 0) → IsName (labels_of (rest_of o r at 0 0)) × (length (labels_of (rest_of o r at 0 0)) ≤ 127)
name_labels o r at h =
    let n = labels_named 0 (rest_of o r at 0 0) h (rest_named o r at 0 0 (omega arith)) in
    (n, omega (arith, twice (labels_of (rest_of o r at 0 0)) n.labels, n.room))
