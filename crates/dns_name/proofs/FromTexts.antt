-- How the labels of a text are read, one octet and one label after the other.
use Rattle.std.proofs.Common.{◌≡◌, ℕ, zero, suc, ◌+◌, ◌-◌, ◌≤◌, ◌<◌, List, [], ◌∷◌, ◌++◌, length, Ok, Err, Result, refl, ap, sym, ◌∙◌, arith, IfOk, true, false, if◌then◌else◌, subst, append_assoc, append-nil, length-append}
use Rattle.std.proofs.lemmas.Bool.Decides.{nat_tests}
use Rattle.dns_name.specs.declared.from_text.FromTextError.{FromTextError}
use Rattle.dns_name.specs.declared.from_text.FromTextError.TheVariants.{EmptyLabel, LongLabel, LongName, BadEscape, BadCharacter, OutOfMemory as NoMemory}
use Rattle.dns_name.specs.FromText.{Front, before_octets, by_octet, octets_up_to, label_octets, first_octet, ends_label, fitting, first_label, IsRefusal}

-- a refusal that is read
pub refuses : {A : Type 0} (e : FromTextError) (r : Result A FromTextError) → r ≡ Err e → IsRefusal e r
refuses EmptyLabel r h = h
refuses LongLabel r h = h
refuses LongName r h = h
refuses BadEscape r h = h
refuses BadCharacter r h = h
refuses NoMemory r h = tt

-- a refusal that is passed on
pub passed : {A B : Type 0} (e : FromTextError) (r : Result A FromTextError) (s : Result B FromTextError) → ((x : FromTextError) → r ≡ Err x → s ≡ Err x) → IsRefusal e r → IsRefusal e s
passed EmptyLabel r s f h = f EmptyLabel h
passed LongLabel r s f h = f LongLabel h
passed LongName r s f h = f LongName h
passed BadEscape r s f h = f BadEscape h
passed BadCharacter r s f h = f BadCharacter h
passed NoMemory r s f h = tt

before_octets-more : (l : List ℕ) (b : ℕ) (r : Front (List ℕ)) → before_octets l (before_octets (b ∷ []) r) ≡ before_octets (l ++ (b ∷ [])) r
before_octets-more l b (Ok p) = ap (λ m. Ok (m, p.1)) (sym (append_assoc l (b ∷ []) p.0))
before_octets-more l b (Err e) = refl

pub before_octets-nil : (r : Front (List ℕ)) → before_octets [] r ≡ r
before_octets-nil (Ok p) = refl
before_octets-nil (Err e) = refl

pub label_ended : (k : ℕ) (t : List ℕ) → ends_label t ≡ true → octets_up_to k t ≡ Ok ([], t)
label_ended zero t h = rw h refl
label_ended (suc k) t h = rw h refl

pub one_more : (k b : ℕ) (t rest : List ℕ) → ends_label t ≡ false → first_octet t ≡ Ok (b, rest) → octets_up_to (suc k) t ≡ before_octets (b ∷ []) (octets_up_to k rest)
one_more k b t rest h e = rw (h, e) refl

octet_refused : (k : ℕ) (t : List ℕ) (e : FromTextError) → ends_label t ≡ false → first_octet t ≡ Err e → octets_up_to k t ≡ Err e
octet_refused zero t e h f = rw (h, f) refl
octet_refused (suc k) t e h f = rw (h, f) refl

-- octets that came before, of which 63 have room, and all
abbrev pub Leads : Front (List ℕ) → List ℕ → List ℕ → Type 0
Leads all l t = before_octets l (octets_up_to (63 - length l) t) ≡ all

pub has_none : (t : List ℕ) → Leads (label_octets t) [] t
unfolding label_octets
has_none t = before_octets-nil (octets_up_to 63 t)

pub has_more : (all : Front (List ℕ)) (l t rest : List ℕ) (b : ℕ) → length l ≤ 62 → ends_label t ≡ false → first_octet t ≡ Ok (b, rest) → Leads all l t → Leads all (l ++ (b ∷ [])) rest
has_more all l t rest b k h e p =
    let n : 63 - length l ≡ suc (63 - length (l ++ (b ∷ []))) = omega (arith, length-append l (b ∷ [])) in
    sym (before_octets-more l b _) ∙ (ap (before_octets l) (sym (one_more (63 - length (l ++ (b ∷ []))) b t rest h e)) ∙ (ap (λ i. before_octets l (octets_up_to i t)) (sym n) ∙ p))

pub has_all : (all : Front (List ℕ)) (l t : List ℕ) → ends_label t ≡ true → Leads all l t → all ≡ Ok (l, t)
has_all all l t h p = sym p ∙ (ap (before_octets l) (label_ended (63 - length l) t h) ∙ ap (λ m. Ok (m, t)) (append-nil l))

pub has_refused : (all : Front (List ℕ)) (l t : List ℕ) (e : FromTextError) → ends_label t ≡ false → first_octet t ≡ Err e → Leads all l t → all ≡ Err e
has_refused all l t e h f p = sym p ∙ ap (before_octets l) (octet_refused (63 - length l) t e h f)

pub has_too_many : (all : Front (List ℕ)) (l t rest : List ℕ) (b : ℕ) → 62 < length l → ends_label t ≡ false → first_octet t ≡ Ok (b, rest) → Leads all l t → all ≡ Err LongLabel
has_too_many all l t rest b k h e p =
    let n : 63 - length l ≡ zero = omega arith in
    let z : octets_up_to zero t ≡ Err LongLabel = rw (h, e) refl in
    sym p ∙ (ap (λ i. before_octets l (octets_up_to i t)) n ∙ ap (before_octets l) z)

-- a label has no more octets than have room
few_front : (k b : ℕ) (r : Front (List ℕ)) → IfOk r (λ p. length p.0 ≤ k) → IfOk (before_octets (b ∷ []) r) (λ p. length p.0 ≤ suc k)
few_front k b (Ok p) h = omega arith
few_front k b (Err e) h = tt

few_by : (k : ℕ) (go : List ℕ → Front (List ℕ)) (r : Front ℕ) → ((t : List ℕ) → IfOk (go t) (λ p. length p.0 ≤ k)) → IfOk (by_octet go r) (λ p. length p.0 ≤ suc k)
few_by k go (Ok p) f = few_front k p.0 (go p.1) (f p.1)
few_by k go (Err e) f = tt

few_none : (r : Front ℕ) → IfOk (by_octet (λ _. Err LongLabel) r) (λ p. length p.0 ≤ zero)
few_none (Ok p) = tt
few_none (Err e) = tt

few_octets : (k : ℕ) (t : List ℕ) → IfOk (octets_up_to k t) (λ p. length p.0 ≤ k)
few_octets zero t = elim (ends_label t) as (λ b. IfOk (if b then Ok ([], t) else by_octet (λ _. Err LongLabel) (first_octet t)) (λ p. length p.0 ≤ zero)) [ true ↦ omega arith | false ↦ few_none (first_octet t) ]
few_octets (suc k) t = elim (ends_label t) as (λ b. IfOk (if b then Ok ([], t) else by_octet (octets_up_to k) (first_octet t)) (λ p. length p.0 ≤ suc k)) [ true ↦ omega arith | false ↦ few_by k (octets_up_to k) (first_octet t) (few_octets k) ]

pub few : (t l rest : List ℕ) → label_octets t ≡ Ok (l, rest) → length l ≤ 63
unfolding label_octets
few t l rest h = subst (λ (r : Front (List ℕ)). IfOk r (λ p. length p.0 ≤ 63)) h (few_octets 63 t)

-- a label within its bounds, and those out of them
pub fits : (size : ℕ) (t l rest : List ℕ) → label_octets t ≡ Ok (l, rest) → 0 < length l → size + length l + 2 ≤ 255 → first_label size t ≡ Ok (l, rest)
fits size t l rest h a b = rw h (grind (arith, nat_tests))

pub is_empty_label : (size : ℕ) (t l rest : List ℕ) → label_octets t ≡ Ok (l, rest) → length l ≡ 0 → first_label size t ≡ Err EmptyLabel
is_empty_label size t l rest h a = rw h (grind (arith, nat_tests))

pub is_long_name : (size : ℕ) (t l rest : List ℕ) → label_octets t ≡ Ok (l, rest) → 0 < length l → 255 < size + length l + 2 → first_label size t ≡ Err LongName
is_long_name size t l rest h a b = rw h (grind (arith, nat_tests))

pub label_refused : (size : ℕ) (t : List ℕ) (e : FromTextError) → IsRefusal e (label_octets t) → IsRefusal e (first_label size t)
label_refused size t e h = passed e (label_octets t) (first_label size t) (λ x k. ap (fitting size) k) h

-- octets are pushed after how many they are
pub pushed_behind : (o l s a b : List ℕ) (n : ℕ) → b ≡ a ++ s → a ≡ o ++ (n ∷ []) → s ≡ l → n ≡ length l → b ≡ o ++ (length l ∷ l)
pushed_behind o l s a b n e f g h = e ∙ (ap (λ x. x ++ s) f ∙ (append_assoc o (n ∷ []) s ∙ (ap (λ x. o ++ (n ∷ x)) g ∙ ap (λ k. o ++ (k ∷ l)) h)))
