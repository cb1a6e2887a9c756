-- A name in front of another.
use Rattle.std.proofs.Common.{Some, None, true, false, ◌≡◌, ℕ, ◌+◌, ◌-◌, ◌≤◌, ◌<◌, List, [], ◌∷◌, ◌++◌, Ok, Err, length, take, refl, ap, sym, ◌∙◌, arith, append_assoc, length-append}
use Rattle.std.specs.Prelude.{Result, nat_lt, if◌then◌else◌}
use Rattle.std.proofs.lemmas.Bool.{lt-ltb, le-ltb}
use Rattle.std.proofs.lemmas.Bool.Decides.{nat_tests}
use Rattle.std.proofs.lemmas.List.{take-append-le}
use Rattle.dns_name.specs.Labels.{spell, AreLabels, IsName}
use Rattle.dns_name.specs.declared.error.ParseError.{ParseError}
use Rattle.dns_name.specs.Names.{name_under, read_whole, uncompressed, uncompressed_at}
use Rattle.dns_name.proofs.Spelt.{spelt_alone, take_all}

abbrev heads : List (List ℕ) → List ℕ
heads [] = []
heads (l ∷ ls) = length l ∷ (l ++ heads ls)

heads_spell : (a b : List (List ℕ)) → spell (a ++ b) ≡ heads a ++ spell b
heads_spell [] b = refl
heads_spell (l ∷ a) b = ap (λ t. length l ∷ t) (ap (λ t. l ++ t) (heads_spell a b) ∙ sym (append_assoc l (heads a) (spell b)))

heads_end : (a : List (List ℕ)) → spell a ≡ heads a ++ (0 ∷ [])
heads_end [] = refl
heads_end (l ∷ a) = ap (λ t. length l ∷ t) (ap (λ t. l ++ t) (heads_end a) ∙ sym (append_assoc l (heads a) (0 ∷ [])))

pub length_heads : (a : List (List ℕ)) → length (spell a) ≡ length (heads a) + 1
length_heads a = ap length (heads_end a) ∙ length-append (heads a) (0 ∷ [])

front_of : (h t : List ℕ) (n : ℕ) → n ≡ length h → take n (h ++ t) ≡ h
front_of h t n e = rw e (let le : length h ≤ length h = omega arith in rw take-append-le (take_all h))

pub front : (a : List (List ℕ)) → take (length (spell a) - 1) (spell a) ≡ heads a
front a = ap (take (length (spell a) - 1)) (heads_end a) ∙ front_of (heads a) (0 ∷ []) (length (spell a) - 1) (omega (arith, length_heads a))

pub joined_octets : (a b : List (List ℕ)) → take (length (spell a) - 1) (spell a) ++ spell b ≡ spell (a ++ b)
joined_octets a b = ap (λ t. t ++ spell b) (front a) ∙ sym (heads_spell a b)

both_labels : (a b : List (List ℕ)) → AreLabels a → AreLabels b → AreLabels (a ++ b)
both_labels [] b h k = k
both_labels (l ∷ a) b h k = (h.0, h.1, both_labels a b h.2 k)

pub joined_reads : (a b : List (List ℕ)) (o : List ℕ) → IsName a → IsName b → o ≡ spell (a ++ b) → length o ≤ 255 → uncompressed o ≡ Ok (a ++ b)
joined_reads a b o n m e h =
    let name : IsName (a ++ b) = record { labels = both_labels a b n.labels m.labels; room = omega (arith, ap length e) } in
    rw e (ap (read_whole (spell (a ++ b))) (spelt_alone (a ++ b) name) ∙ grind (arith, nat_tests))

-- ---- a name below the origin

lengths : (a b : List (List ℕ)) → length (spell (a ++ b)) + 1 ≡ length (spell a) + length (spell b)
lengths a b = omega (arith, ap length (heads_spell a b), length-append (heads a) (spell b), length_heads a)

pub some_octet : (a : List (List ℕ)) (f : List ℕ) → f ≡ spell a → 1 ≤ length f
some_octet a f e = omega (arith, ap length e, length_heads a)

pub under_long : (a b : List (List ℕ)) (f g : List ℕ) → f ≡ spell a → g ≡ spell b → 255 < (length f - 1) + length g → name_under b a ≡ None
under_long a b f g d e h =
    let t : nat_lt 255 (length (spell (a ++ b))) ≡ true = lt-ltb 255 (length (spell (a ++ b))) (omega (arith, lengths a b, length_heads a, ap length d, ap length e)) in
    rw t refl

pub under_fits : (a b : List (List ℕ)) (f g : List ℕ) → f ≡ spell a → g ≡ spell b → (length f - 1) + length g ≤ 255 → name_under b a ≡ Some (a ++ b)
under_fits a b f g d e h =
    let t : nat_lt 255 (length (spell (a ++ b))) ≡ false = le-ltb 255 (length (spell (a ++ b))) (omega (arith, lengths a b, length_heads a, ap length d, ap length e)) in
    rw t refl

octets_joined : (a b : List (List ℕ)) (f g o : List ℕ) → f ≡ spell a → g ≡ spell b → o ≡ take (length f - 1) f ++ g → o ≡ spell (a ++ b)
octets_joined a b f g o d e h = h ∙ (ap (λ x. take (length x - 1) x ++ g) d ∙ (ap (λ y. take (length (spell a) - 1) (spell a) ++ y) e ∙ joined_octets a b))

pub read_joined : (a b : List (List ℕ)) (f g o : List ℕ) → f ≡ spell a → g ≡ spell b → IsName a → IsName b → o ≡ take (length f - 1) f ++ g → (length f - 1) + length g ≤ 255 → uncompressed o ≡ Ok (a ++ b)
read_joined a b f g o d e n m h k =
    let s = octets_joined a b f g o d e h in
    joined_reads a b o n m s (omega (arith, ap length s, lengths a b, length_heads a, ap length d, ap length e))

same_ok : (n m : List (List ℕ)) (u : Result (List (List ℕ)) ParseError) → u ≡ Ok n → u ≡ Ok m → n ≡ m
same_ok n m u h k = cc

pub named_ok : (a b n : List (List ℕ)) (o : List ℕ) → uncompressed o ≡ Ok (a ++ b) → Ok n ≡ uncompressed o → name_under b a ≡ Some (a ++ b) → name_under b a ≡ Some n
named_ok a b n o reads h fits = fits ∙ ap (λ (x : List (List ℕ)). Some x) (same_ok (a ++ b) n (uncompressed o) reads (sym h))

pub never_err : (n : List (List ℕ)) (o : List ℕ) (e : ParseError) → uncompressed o ≡ Ok n → Err e ≡ uncompressed o → ⊥
never_err n o e reads h = let bad : Err e ≡ Ok n = h ∙ reads in cc bad
