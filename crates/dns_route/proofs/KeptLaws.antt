-- What is kept of options, by a walk over the first option of those that are left.
use Rattle.std.proofs.Common.{◌≡◌, ℕ, zero, suc, ◌+◌, ◌≤◌, true, false, List, [], ◌∷◌, ◌++◌, length, take, drop, Option, Some, None, refl, ap, sym, ◌∙◌, arith, length-drop, length-take, length-append, append-nil, append_assoc}
use Rattle.std.specs.Prelude.{option_map, is_some, unwrap_or, if◌then◌else◌, nat_le}
use Rattle.std.proofs.lemmas.Option.{cond_some}
use Rattle.std.proofs.lemmas.Bool.{leb-true}
use Rattle.dns_name.specs.Place.{be16}
use Rattle.dns_base.specs.Options.{split_at, first_option, with_first, options_up_to, options, option_octets, IsOptionList}
use Rattle.dns_route.specs.declared.kept.KeptKinds.{KeptKinds}
use Rattle.dns_route.specs.KeptOptions.{keeps, kept_options, kept_of_list}

-- ---- the first option of a list

pub split_size : (code n : ℕ) (x : List ℕ) (c : ℕ) (d r : List ℕ) → split_at code n x ≡ Some (c, d, r) → length x ≡ length d + length r
split_size code n x c d r e =
    let q = cond_some (nat_le n (length x)) (code, take n x, drop n x) (c, d, r) e in
    let h = leb-true n (length x) q.0 in
    let a : take n x ≡ d = ap (λ (t : ℕ × List ℕ × List ℕ). t.1) q.1 in
    let b : drop n x ≡ r = ap (λ (t : ℕ × List ℕ × List ℕ). t.2) q.1 in
    omega (arith, h, ap length a, ap length b, length-take n x, length-drop n x)

-- how long a list is by its first option
first_size : (o : List ℕ) (c : ℕ) (d r : List ℕ) → first_option o ≡ Some (c, d, r) → length o ≡ 4 + length d + length r
first_size [] c d r e = cc
first_size (x ∷ []) c d r e = cc
first_size (x ∷ y ∷ []) c d r e = cc
first_size (x ∷ y ∷ z ∷ []) c d r e = cc
first_size (x ∷ y ∷ z ∷ w ∷ o) c d r e = omega (arith, split_size (be16 x y) (be16 z w) o c d r e)

mapped : (p : ℕ × List ℕ) (x : Option (List (ℕ × List ℕ))) (ps : List (ℕ × List ℕ)) → option_map (λ qs. p ∷ qs) x ≡ Some ps → (qs : List (ℕ × List ℕ)) × (x ≡ Some qs) × (ps ≡ p ∷ qs)
mapped p None ps e = cc
mapped p (Some qs) ps e = (qs, refl, cc)

-- the options by the first one, and those after it
pub first_pair : (n : ℕ) (o : List ℕ) (ps : List (ℕ × List ℕ)) (c : ℕ) (d r : List ℕ) → options_up_to n o ≡ Some ps → first_option o ≡ Some (c, d, r) → (m : ℕ) × (qs : List (ℕ × List ℕ)) × (options_up_to m r ≡ Some qs) × (ps ≡ (c, d) ∷ qs)
first_pair zero [] ps c d r e f = cc
first_pair zero (a ∷ o) ps c d r e f = cc
first_pair (suc n) [] ps c d r e f = cc
first_pair (suc n) (a ∷ o) ps c d r e f =
    let g : option_map (λ qs. (c, d) ∷ qs) (options_up_to n r) ≡ Some ps = sym (ap (with_first (options_up_to n)) f) ∙ e in
    let q = mapped (c, d) (options_up_to n r) ps g in
    (n, q.0, q.1, q.2)

pub no_pairs : (n : ℕ) (o : List ℕ) (ps : List (ℕ × List ℕ)) → options_up_to n o ≡ Some ps → first_option o ≡ None → ps ≡ []
no_pairs zero [] ps e f = cc
no_pairs zero (a ∷ o) ps e f = cc
no_pairs (suc n) [] ps e f = cc
no_pairs (suc n) (a ∷ o) ps e f =
    let g : None ≡ Some ps = sym (ap (with_first (options_up_to n)) f) ∙ e in
    cc

-- ---- the walk

pub some_of : (x : Option (List (ℕ × List ℕ))) → is_some x ≡ true → (ps : List (ℕ × List ℕ)) × (x ≡ Some ps)
some_of None h = cc
some_of (Some ps) h = (ps, refl)

-- what is left of a list are options, and what was kept with what is to be kept of them is what is kept of the list
pub record IsWalked (k : KeptKinds) (o left kept : List ℕ) : Type 0 where
  pub fuel : ℕ
  pub pairs : List (ℕ × List ℕ)
  pub behind : options_up_to fuel left ≡ Some pairs
  pub same : kept ++ kept_options k pairs ≡ kept_of_list k o
  pub room : length kept + length left ≤ 65535

pub begun : (k : KeptKinds) (o : List ℕ) → IsOptionList o → length o ≤ 65535 → IsWalked k o o []
unfolding options
begun k o h l =
    let q = some_of (options_up_to (length o) o) h in
    record { fuel = length o; pairs = q.0; behind = q.1; same = ap (λ x. kept_options k (unwrap_or x [])) (sym q.1); room = omega (arith, l) }

pub ended : (k : KeptKinds) (o left kept : List ℕ) → IsWalked k o left kept → first_option left ≡ None → kept ≡ kept_of_list k o
ended k o left kept w f =
    let n : kept_options k w.pairs ≡ [] = ap (kept_options k) (no_pairs w.fuel left w.pairs w.behind f) in
    sym (append-nil kept) ∙ (ap (λ l. kept ++ l) (sym n) ∙ w.same)

module _ (k : KeptKinds) (o left kept : List ℕ) (c : ℕ) (d r : List ℕ) (w : IsWalked k o left kept) (f : first_option left ≡ Some (c, d, r)) where
  -- an option has room after those that are kept
  pub has_room : length kept + 4 + length d ≤ 65535
  has_room = omega (arith, first_size left c d r f, w.room)

  pub kept_one : keeps k c ≡ true → IsWalked k o r (kept ++ option_octets c d)
  kept_one t =
      let s = first_pair w.fuel left w.pairs c d r w.behind f in
      let e : kept_options k w.pairs ≡ option_octets c d ++ kept_options k s.1 = ap (kept_options k) s.3 ∙ ap (λ b. if b then option_octets c d ++ kept_options k s.1 else kept_options k s.1) t in
      record {
        fuel = s.0;
        pairs = s.1;
        behind = s.2;
        same = append_assoc kept (option_octets c d) (kept_options k s.1) ∙ (ap (λ l. kept ++ l) (sym e) ∙ w.same);
        room = omega (arith, first_size left c d r f, length-append kept (option_octets c d), w.room);
      }

  pub left_one : keeps k c ≡ false → IsWalked k o r kept
  left_one t =
      let s = first_pair w.fuel left w.pairs c d r w.behind f in
      let e : kept_options k w.pairs ≡ kept_options k s.1 = ap (kept_options k) s.3 ∙ ap (λ b. if b then option_octets c d ++ kept_options k s.1 else kept_options k s.1) t in
      record {
        fuel = s.0;
        pairs = s.1;
        behind = s.2;
        same = ap (λ l. kept ++ l) (sym e) ∙ w.same;
        room = omega (arith, first_size left c d r f, w.room);
      }
