-- Option lists are their options, one after another.
use Rattle.std.proofs.Common.{◌≡◌, ℕ, zero, suc, ◌/◌, ◌%◌, ◌≤◌, ◌<◌, ◌↔◌, List, [], ◌∷◌, ◌++◌, length, take, drop, Some, None, sym, ap, ◌∙◌, arith, nat_le, subst, inl, inr, length-take-le}
use Rattle.std.proofs.lemmas.Bool.{leb-true}
use Rattle.std.proofs.lemmas.List.{take-append-drop}
use Rattle.std.proofs.lemmas.List.Elements.{All-drop}
use Rattle.std.proofs.lemmas.Option.{cond_some}
use Rattle.std.specs.List.{All}
use Rattle.std.specs.Prelude.{is_some, option_map}
use Rattle.dns_name.specs.Place.{be16}
use Rattle.dns_message.specs.Options.{first_option, options, option_octets, split_at, IsOptionList}
use Rattle.dns_message.proofs.OptionLaws.{append_first, first_of_one, first_shorter, map_some, options_append, options_empty, options_none, options_some, shown, some_of}
use Rattle.dns_option_list.specs.Joined.{options_octets}

abbrev Octets : List ℕ → Type 0
Octets o = All (λ x. x < 256) o

pub one_more : (o : List ℕ) (ps : List (ℕ × List ℕ)) (c : ℕ) (d : List ℕ) → options o ≡ Some ps → options (o ++ option_octets c d) ≡ Some (ps ++ (c, d) ∷ [])
one_more = options_append

first_joined : (c : ℕ) (d r : List ℕ) → first_option (option_octets c d ++ r) ≡ Some (c, d, r)
first_joined c d r = append_first (option_octets c d) r c d [] (first_of_one c d)

-- options that are joined are read as these
pub joined_read : (ps : List (ℕ × List ℕ)) → options (options_octets ps) ≡ Some ps
joined_read [] = options_empty
joined_read (p ∷ ps) = options_some (option_octets p.0 p.1 ++ options_octets ps) p.0 p.1 (options_octets ps) (first_joined p.0 p.1 (options_octets ps)) ∙ ap (option_map (λ qs. (p.0, p.1) ∷ qs)) (joined_read ps)

high_back : (a b : ℕ) → b < 256 → be16 a b / 256 ≡ a
high_back a b h = omega arith

low_back : (a b : ℕ) → b < 256 → be16 a b % 256 ≡ b
low_back a b h = omega arith

split_back : (code n : ℕ) (x : List ℕ) (c : ℕ) (d r : List ℕ) → split_at code n x ≡ Some (c, d, r) → (code ≡ c) × (n ≡ length d) × (x ≡ d ++ r) × (drop n x ≡ r)
split_back code n x c d r e =
    let q = cond_some (nat_le n (length x)) (code, take n x, drop n x) (c, d, r) e in
    let h : n ≤ length x = leb-true n (length x) q.0 in (
      ap (λ (t : ℕ × List ℕ × List ℕ). t.0) q.1,
      sym (length-take-le n x h) ∙ ap (λ (t : ℕ × List ℕ × List ℕ). length t.1) q.1,
      sym (take-append-drop n x) ∙ ap (λ (t : ℕ × List ℕ × List ℕ). t.1 ++ t.2) q.1,
      ap (λ (t : ℕ × List ℕ × List ℕ). t.2) q.1,
    )

-- octets that begin with an option are it and what follows
first_back : (o : List ℕ) (c : ℕ) (d r : List ℕ) → Octets o → first_option o ≡ Some (c, d, r) → (o ≡ option_octets c d ++ r) × Octets r
first_back [] c d r h e = absurd (cc)
first_back (x ∷ []) c d r h e = absurd (cc)
first_back (x ∷ y ∷ []) c d r h e = absurd (cc)
first_back (x ∷ y ∷ z ∷ []) c d r h e = absurd (cc)
first_back (x ∷ y ∷ z ∷ w ∷ o) c d r h e =
    let s = split_back (be16 x y) (be16 z w) o c d r e in
    let low : y < 256 = h (suc zero) 0 (omega arith) in
    let last : w < 256 = h (suc (suc (suc zero))) 0 (omega arith) in
    let code_high : x ≡ c / 256 = sym (high_back x y low) ∙ ap (λ n. n / 256) s.0 in
    let code_low : y ≡ c % 256 = sym (low_back x y low) ∙ ap (λ n. n % 256) s.0 in
    let size_high : z ≡ length d / 256 = sym (high_back z w last) ∙ ap (λ n. n / 256) s.1 in
    let size_low : w ≡ length d % 256 = sym (low_back z w last) ∙ ap (λ n. n % 256) s.1 in
    let behind : Octets o = λ k v l. h (suc (suc (suc (suc k)))) v (omega arith) in
    ((λ i. code_high i ∷ code_low i ∷ size_high i ∷ size_low i ∷ s.2 i), subst Octets s.3 (All-drop (λ n. n < 256) (be16 z w) o behind))

joined_back : (k : ℕ) (o : List ℕ) (ps : List (ℕ × List ℕ)) → length o ≤ k → Octets o → options o ≡ Some ps → o ≡ options_octets ps
joined_back k [] ps h a e =
    let n : ps ≡ [] = cc (options_empty) in
    ap options_octets (sym n)
joined_back zero (x ∷ o) ps h a e = absurd (omega arith)
joined_back (suc k) (x ∷ o) ps h a e = elim (shown (first_option (x ∷ o))) [
  | inl n ↦ let none : options (x ∷ o) ≡ None = options_none (x ∷ o) n (omega arith) in absurd (cc)
  | inr t ↦
      let s : options (x ∷ o) ≡ option_map (λ qs. (t.0, t.1.0) ∷ qs) (options t.1.1.0) = options_some (x ∷ o) t.0 t.1.0 t.1.1.0 t.1.1.1 in
      let q = map_some (λ qs. (t.0, t.1.0) ∷ qs) (options t.1.1.0) ps (sym s ∙ e) in
      let l : length t.1.1.0 < length (x ∷ o) = first_shorter (x ∷ o) t.0 t.1.0 t.1.1.0 t.1.1.1 in
      let f = first_back (x ∷ o) t.0 t.1.0 t.1.1.0 a t.1.1.1 in
      let i : t.1.1.0 ≡ options_octets q.0 = joined_back k t.1.1.0 q.0 (omega arith) f.1 q.1 in
      f.0 ∙ (ap (λ r. option_octets t.0 t.1.0 ++ r) i ∙ ap options_octets q.2)
]

-- octets are certain options exactly if they are these, joined
pub options_joined : (o : List ℕ) (ps : List (ℕ × List ℕ)) → Octets o → (options o ≡ Some ps) ↔ (o ≡ options_octets ps)
options_joined o ps a = ((λ e. joined_back (length o) o ps (omega arith) a e), (λ e. ap options e ∙ joined_read ps))

-- and a list exactly if there are such
pub list_joined : (o : List ℕ) → Octets o → IsOptionList o ↔ ((ps : List (ℕ × List ℕ)) × (o ≡ options_octets ps))
list_joined o a = (
  (λ l. let q = some_of (options o) l in (q.0, joined_back (length o) o q.0 (omega arith) a q.1)),
  (λ p. ap is_some (ap options p.1 ∙ joined_read p.0)),
)
