-- Laws of option lists.
use Rattle.std.proofs.Common.{◌≡◌, ℕ, zero, suc, ◌/◌, ◌%◌, ◌≤◌, ◌<◌, true, false, List, [], ◌∷◌, ◌++◌, length, take, drop, Option, Some, None, refl, sym, ◌∙◌, ap, arith, nat_le, cond, length-append, length-drop}
use Rattle.std.specs.Prelude.{option_map, is_some}
use Rattle.std.proofs.lemmas.Option.{cond_some}
use Rattle.std.proofs.lemmas.Bool.{leb-true, le-leb}
use Rattle.std.proofs.lemmas.List.{take-append-le, drop-append-le}
use Rattle.std.proofs.Math.Seq.{take-append_seam, drop-append_seam}
use Rattle.std.proofs.Common.{◌⊎◌, inl, inr, append-nil, subst}
use Rattle.dns_name.specs.Place.{be16}
use Rattle.dns_message.specs.Options.{split_at, first_option, with_first, options_up_to, options, option_octets, IsOptionList}

abbrev pub IsShorter : ℕ → Option (ℕ × List ℕ × List ℕ) → Type 0
IsShorter n None = Unit {0}
IsShorter n (Some p) = length p.2 < n

pub shorter_split : (code n : ℕ) (d : List ℕ) → IsShorter (suc (suc (suc (suc (length d))))) (split_at code n d)
shorter_split code n d = elim (nat_le n (length d)) as (λ b. IsShorter (suc (suc (suc (suc (length d))))) (cond b (Some (code, take n d, drop n d)) None)) [ true ↦ omega (arith, length-drop n d) | false ↦ tt ]

pub shorter : (o : List ℕ) → IsShorter (length o) (first_option o)
shorter [] = tt
shorter (a ∷ []) = tt
shorter (a ∷ b ∷ []) = tt
shorter (a ∷ b ∷ c ∷ []) = tt
shorter (a ∷ b ∷ c ∷ e ∷ d) = shorter_split (be16 a b) (be16 c e) d

pub same_step : (j k n : ℕ) (x : Option (ℕ × List ℕ × List ℕ)) → IsShorter n x → n ≤ suc j → n ≤ suc k → ((o : List ℕ) → length o ≤ j → length o ≤ k → options_up_to j o ≡ options_up_to k o) → with_first (options_up_to j) x ≡ with_first (options_up_to k) x
same_step j k n None h i m ih = refl
same_step j k n (Some p) h i m ih = ap (option_map (λ ps. (p.0, p.1) ∷ ps)) (ih p.2 (omega arith) (omega arith))

pub enough : (j k : ℕ) (o : List ℕ) → length o ≤ j → length o ≤ k → options_up_to j o ≡ options_up_to k o
enough zero zero o h i = refl
enough zero (suc k) [] h i = refl
enough zero (suc k) (a ∷ o) h i = absurd (omega arith)
enough (suc j) zero [] h i = refl
enough (suc j) zero (a ∷ o) h i = absurd (omega arith)
enough (suc j) (suc k) [] h i = refl
enough (suc j) (suc k) (a ∷ o) h i = same_step j k (length (a ∷ o)) (first_option (a ∷ o)) (shorter (a ∷ o)) h i (enough j k)

pub more_step : (k n : ℕ) (x : Option (ℕ × List ℕ × List ℕ)) → IsShorter n x → n ≤ suc k → with_first (options_up_to k) x ≡ with_first options x
unfolding options
more_step k n None h i = refl
more_step k n (Some p) h i = ap (option_map (λ ps. (p.0, p.1) ∷ ps)) (enough k (length p.2) p.2 (omega arith) (omega arith))

-- options by the first option
pub options_cons : (a : ℕ) (o : List ℕ) → options (a ∷ o) ≡ with_first options (first_option (a ∷ o))
unfolding options
options_cons a o = more_step (length o) (length (a ∷ o)) (first_option (a ∷ o)) (shorter (a ∷ o)) (omega arith)

pub options_empty : options [] ≡ Some []
unfolding options
options_empty = refl

-- ---- for walks by the first option
pub options_some : (o : List ℕ) (c : ℕ) (d r : List ℕ) → first_option o ≡ Some (c, d, r) → options o ≡ option_map (λ ps. (c, d) ∷ ps) (options r)
options_some [] c d r e = cc
options_some (a ∷ o) c d r e = options_cons a o ∙ ap (with_first options) e

pub options_none : (o : List ℕ) → first_option o ≡ None → 0 < length o → options o ≡ None
options_none [] e h = absurd (omega arith)
options_none (a ∷ o) e h = options_cons a o ∙ ap (with_first options) e

pub none_empty : (o : List ℕ) → IsOptionList o → first_option o ≡ None → o ≡ []
none_empty [] h e = refl
none_empty (a ∷ o) h e = let n : options (a ∷ o) ≡ None = options_none (a ∷ o) e (omega arith) in let f : false ≡ true = rw n at h in cc

pub is_some_map : (c : ℕ) (d : List ℕ) (x : Option (List (ℕ × List ℕ))) → is_some (option_map (λ ps. (c, d) ∷ ps) x) ≡ is_some x
is_some_map c d None = refl
is_some_map c d (Some ps) = refl

pub list_step : (o : List ℕ) (c : ℕ) (d r : List ℕ) → first_option o ≡ Some (c, d, r) → is_some (options o) ≡ is_some (options r)
list_step o c d r e = ap is_some (options_some o c d r e) ∙ is_some_map c d (options r)

pub list_none : (o : List ℕ) → first_option o ≡ None → 0 < length o → is_some (options o) ≡ false
list_none o e h = ap is_some (options_none o e h)

pub empty_is_list : IsOptionList []
empty_is_list = ap is_some options_empty

-- ---- a list with one more option
pub split_append : (code n : ℕ) (x p : List ℕ) (c : ℕ) (d r : List ℕ) → split_at code n x ≡ Some (c, d, r) → split_at code n (x ++ p) ≡ Some (c, d, r ++ p)
split_append code n x p c d r e =
    let q = cond_some (nat_le n (length x)) (code, take n x, drop n x) (c, d, r) e in
    let h : n ≤ length x = leb-true n (length x) q.0 in
    let l : nat_le n (length (x ++ p)) ≡ true = le-leb n (length (x ++ p)) (omega (arith, length-append x p)) in
    rw (l, take-append-le n x p h, drop-append-le n x p h) (ap (λ (t : ℕ × List ℕ × List ℕ). Some (t.0, t.1, t.2 ++ p)) q.1)

pub append_first : (o p : List ℕ) (c : ℕ) (d r : List ℕ) → first_option o ≡ Some (c, d, r) → first_option (o ++ p) ≡ Some (c, d, r ++ p)
append_first [] p c d r e = cc
append_first (x ∷ []) p c d r e = cc
append_first (x ∷ y ∷ []) p c d r e = cc
append_first (x ∷ y ∷ z ∷ []) p c d r e = cc
append_first (x ∷ y ∷ z ∷ w ∷ o) p c d r e = split_append (be16 x y) (be16 z w) o p c d r e

pub be16_whole : (n : ℕ) → be16 (n / 256) (n % 256) ≡ n
be16_whole n = omega arith

pub whole_parts : (c : ℕ) (d : List ℕ) → ◌≡◌ {A = Option (ℕ × List ℕ × List ℕ)} (Some (c, take (length d) d, drop (length d) d)) (Some (c, d, []))
whole_parts c d =
    let a : take (length d) d ≡ d = rw append-nil at (take-append_seam d []) in
    let b : drop (length d) d ≡ [] = rw append-nil at (drop-append_seam d []) in
    rw (a, b) refl

pub split_whole : (c : ℕ) (d : List ℕ) (n : ℕ) → n ≡ length d → split_at c n d ≡ Some (c, d, [])
split_whole c d n e =
    let l : nat_le n (length d) ≡ true = le-leb n (length d) (omega arith) in
    rw l (rw e (whole_parts c d))

pub first_of_one : (c : ℕ) (d : List ℕ) → first_option (option_octets c d) ≡ Some (c, d, [])
first_of_one c d = rw (be16_whole c) (split_whole c d (be16 (length d / 256) (length d % 256)) (be16_whole (length d)))

pub options_one : (c : ℕ) (d : List ℕ) → options (option_octets c d) ≡ Some ((c, d) ∷ [])
options_one c d = options_some (option_octets c d) c d [] (first_of_one c d) ∙ ap (option_map (λ ps. (c, d) ∷ ps)) options_empty

pub map_some : {A B : Type 0} (f : A → B) (x : Option A) (y : B) → option_map f x ≡ Some y → (a : A) × (x ≡ Some a) × (f a ≡ y)
map_some f None y e = cc
map_some f (Some a) y e = (a, refl, cc)

pub shown : (x : Option (ℕ × List ℕ × List ℕ)) → (x ≡ None) ⊎ ((c : ℕ) × ((d : List ℕ) × ((r : List ℕ) × (x ≡ Some (c, d, r)))))
shown None = inl refl
shown (Some t) = inr (t.0, (t.1, (t.2, refl)))

pub first_shorter : (o : List ℕ) (c : ℕ) (d r : List ℕ) → first_option o ≡ Some (c, d, r) → length r < length o
first_shorter o c d r e = subst (IsShorter (length o)) e (shorter o)

pub append_option : (k : ℕ) (o : List ℕ) (ps : List (ℕ × List ℕ)) (c : ℕ) (d : List ℕ) → length o ≤ k → options o ≡ Some ps → options (o ++ option_octets c d) ≡ Some (ps ++ (c, d) ∷ [])
append_option k [] ps c d h e =
    let n : ps ≡ [] = cc (options_empty) in
    rw n (options_one c d)
append_option zero (a ∷ o) ps c d h e = absurd (omega arith)
append_option (suc k) (a ∷ o) ps c d h e = elim (shown (first_option (a ∷ o))) [
  | inl n ↦ let x : options (a ∷ o) ≡ None = options_none (a ∷ o) n (omega arith) in cc
  | inr t ↦
      let s : options (a ∷ o) ≡ option_map (λ ps. (t.0, t.1.0) ∷ ps) (options t.1.1.0) = options_some (a ∷ o) t.0 t.1.0 t.1.1.0 t.1.1.1 in
      let q = map_some (λ ps. (t.0, t.1.0) ∷ ps) (options t.1.1.0) ps (sym s ∙ e) in
      let l : length t.1.1.0 < length (a ∷ o) = first_shorter (a ∷ o) t.0 t.1.0 t.1.1.0 t.1.1.1 in
      let i : options (t.1.1.0 ++ option_octets c d) ≡ Some (q.0 ++ (c, d) ∷ []) = append_option k t.1.1.0 q.0 c d (omega arith) q.1 in
      options_some (a ∷ o ++ option_octets c d) t.0 t.1.0 (t.1.1.0 ++ option_octets c d) (append_first (a ∷ o) (option_octets c d) t.0 t.1.0 t.1.1.0 t.1.1.1)
      ∙ ap (option_map (λ ps. (t.0, t.1.0) ∷ ps)) i
      ∙ ap (λ ps. Some (ps ++ (c, d) ∷ [])) q.2
]

pub options_append : (o : List ℕ) (ps : List (ℕ × List ℕ)) (c : ℕ) (d : List ℕ) → options o ≡ Some ps → options (o ++ option_octets c d) ≡ Some (ps ++ (c, d) ∷ [])
options_append o ps c d e = append_option (length o) o ps c d (omega arith) e

pub some_of : (x : Option (List (ℕ × List ℕ))) → is_some x ≡ true → (ps : List (ℕ × List ℕ)) × (x ≡ Some ps)
some_of None h = cc
some_of (Some ps) h = (ps, refl)

pub list_append : (o : List ℕ) (c : ℕ) (d : List ℕ) → IsOptionList o → IsOptionList (o ++ option_octets c d)
list_append o c d h = let q = some_of (options o) h in ap is_some (options_append o q.0 c d q.1)
