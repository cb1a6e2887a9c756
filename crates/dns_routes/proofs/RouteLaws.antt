-- The service that is chosen, by look-ups of a name, of the name without its first label, and so on to the root.
use Rattle.std.proofs.Common.{◌≡◌, ℕ, ◌+◌, ◌-◌, ◌≤◌, ◌<◌, Bool, true, false, List, [], ◌∷◌, length, map, drop, cond, nat_eq, nat_le, Option, Some, None, refl, ap, sym, subst, ◌∙◌, arith}
use Rattle.std.specs.Prelude.{◌&&◌, ◌↔◌, IsTrue, option_map, is_some}
use Rattle.std.specs.Cmp.{both_ways}
use Rattle.std.specs.List.{filter, last_or}
use Rattle.std.proofs.lemmas.Bool.Decides.{nat_tests}
use Rattle.std.proofs.lemmas.List.{length-map}
use Rattle.std.proofs.Math.Nat.{max-le, le-max_left, le-max_right}
use Rattle.std.specs.Char.{to_ascii_lowercase}
use Rattle.dns_name.specs.Canonical.{same_name, same_name_Decides}
use Rattle.dns_name.specs.Labels.{EndsWith, folded}
use Rattle.dns_routes.specs.Places.{last_under, name_key}
use Rattle.dns_routes.specs.Routes.{Route, chosen, ends_name, matching, most_labels, of_labels}
use Rattle.dns_routes.proofs.KeyLaws.{under_key}

-- ---- tests

both_true : (a b : Bool) → a ≡ true → b ≡ true → (a && b) ≡ true
both_true true b h i = i
both_true false b h i = absurd (cc)

first_true : (a b : Bool) → (a && b) ≡ true → a ≡ true
first_true true b h = refl
first_true false b h = h

second_true : (a b : Bool) → (a && b) ≡ true → b ≡ true
second_true true b h = h
second_true false b h = absurd (cc)

eq_true : (a b : ℕ) → a ≡ b → nat_eq a b ≡ true
eq_true a b h = grind (arith, nat_tests)

true_eq : (a b : ℕ) → nat_eq a b ≡ true → a ≡ b
true_eq a b h = grind (arith, nat_tests)

eq_false : (a b : ℕ) → a < b → nat_eq a b ≡ false
eq_false a b h = grind (arith, nat_tests)

le_true : (a b : ℕ) → a ≤ b → nat_le a b ≡ true
le_true a b h = grind (arith, nat_tests)

true_le : (a b : ℕ) → nat_le a b ≡ true → a ≤ b
true_le a b h = grind (arith, nat_tests)

less_by : (a n : ℕ) (b : Bool) → nat_eq a n ≡ b → (b ≡ true → ⊥) → a < n + 1 → a < n
less_by a n true e f h = absurd (f refl)
less_by a n false e f h = grind (arith, nat_tests)

-- ---- lists

filter_both : {X : Type 0} (p o d : X → Bool) → ((x : X) → (p x && o x) ≡ d x) → (xs : List X) → filter o (filter p xs) ≡ filter d xs
filter_both p o d e [] = refl
filter_both {X} p o d e (x ∷ xs) =
    let ih = filter_both p o d e xs in
    let step : filter o (cond (p x) (x ∷ filter p xs) (filter p xs)) ≡ cond (p x && o x) (x ∷ filter d xs) (filter d xs) =
    elim (p x) as (λ (b : Bool). filter o (cond b (x ∷ filter p xs) (filter p xs)) ≡ cond (b && o x) (x ∷ filter d xs) (filter d xs)) [
      | true ↦ ap (λ (l : List X). cond (o x) (x ∷ l) l) ih
      | false ↦ ih
    ]
    in
    step ∙ ap (λ b. cond b (x ∷ filter d xs) (filter d xs)) (e x)

last_some : {X : Type 0} (x : X) (xs : List X) → is_some (last_or (Some x) xs) ≡ true
last_some x [] = refl
last_some x (y ∷ xs) = last_some y xs

last_none : {X : Type 0} (xs : List X) → last_or None xs ≡ None → xs ≡ []
last_none [] h = refl
last_none (x ∷ xs) h =
    let e : true ≡ false = sym (last_some x xs) ∙ ap is_some h in
    absurd (cc)

none_by : {X : Type 0} (x : X) (xs : List X) (b : Bool) → cond b (x ∷ xs) xs ≡ [] → (b ≡ false) × (xs ≡ [])
none_by x xs true h = absurd (cc)
none_by x xs false h = (refl, h)

-- ---- names that end a question's

pub ends_le : (q n : List (List ℕ)) → ends_name q n ≡ true → length n ≤ length q
ends_le q n h = true_le (length n) (length q) (first_true (nat_le (length n) (length q)) (same_name (drop (length q - length n) q) n) h)

folded_length : (ls : List (List ℕ)) → length (folded ls) ≡ length ls
folded_length ls = length-map ls (map to_ascii_lowercase)

same_length : (a b : List (List ℕ)) → same_name a b ≡ true → length a ≡ length b
same_length a b h = sym (folded_length a) ∙ (ap length ((same_name_Decides a b).0 h) ∙ folded_length b)

-- a name without its first labels
pub record IsTail (q s : List (List ℕ)) : Type 0 where
  pub short : length s ≤ length q
  pub tail : s ≡ drop (length q - length s) q

-- a name ends the question's and has as many labels as the question's end, exactly if it is the same as that
same_as : (q s : List (List ℕ)) → IsTail q s → (n : List (List ℕ)) → (ends_name q n && nat_eq (length n) (length s)) ≡ same_name s n
same_as q s t n =
    let there : (ends_name q n && nat_eq (length n) (length s)) ≡ true → same_name s n ≡ true =
    λ h.
    let a = first_true (ends_name q n) (nat_eq (length n) (length s)) h in
    let b = true_eq (length n) (length s) (second_true (ends_name q n) (nat_eq (length n) (length s)) h) in
    let c = second_true (nat_le (length n) (length q)) (same_name (drop (length q - length n) q) n) a in
    subst (λ (x : List (List ℕ)). same_name x n ≡ true) (ap (λ k. drop (length q - k) q) b ∙ sym t.tail) c
    in
    let back : same_name s n ≡ true → (ends_name q n && nat_eq (length n) (length s)) ≡ true =
    λ h.
    let b : length n ≡ length s = sym (same_length s n h) in
    let c : same_name (drop (length q - length n) q) n ≡ true = subst (λ (x : List (List ℕ)). same_name x n ≡ true) (t.tail ∙ ap (λ k. drop (length q - k) q) (sym b)) h in
    let l : length n ≤ length q = omega (arith, t.short) in
    both_true (ends_name q n) (nat_eq (length n) (length s)) (both_true (nat_le (length n) (length q)) (same_name (drop (length q - length n) q) n) (le_true (length n) (length q) l) c) (eq_true (length n) (length s) b)
    in
    both_ways _ _ there back

-- ---- the choice

-- the names that end a question's have fewer labels than n
abbrev pub AllUnder : {S : Type 0} → ℕ → List (List ℕ) → List (Route S) → Type 0
AllUnder n q [] = Unit {0}
AllUnder n q (r ∷ rs) = (ends_name q r.0 ≡ true → length r.0 < n) × AllUnder n q rs

module _ {S : Type 0} (q : List (List ℕ)) where
  pub under_all : (rs : List (Route S)) → AllUnder (length q + 1) q rs
  under_all [] = tt
  under_all (r ∷ rs) = (λ h. omega (arith, ends_le q r.0 h), under_all rs)

  most_step : (n : ℕ) (r : Route S) (ms : List (Route S)) (b : Bool) → (b ≡ true → length r.0 < n + 1) → most_labels ms ≤ n → most_labels (cond b (r ∷ ms) ms) ≤ n
  most_step n r ms true h k =
      let l : length r.0 ≤ n = omega (arith, h refl) in
      max-le l k
  most_step n r ms false h k = k

  under_most : (n : ℕ) (rs : List (Route S)) → AllUnder (n + 1) q rs → most_labels (matching q rs) ≤ n
  under_most n [] h = omega arith
  under_most n (r ∷ rs) h = most_step n r (matching q rs) (ends_name q r.0) h.0 (under_most n rs h.1)

  of_more : (n : ℕ) (ms : List (Route S)) → most_labels ms < n → of_labels n ms ≡ []
  of_more n [] h = refl
  of_more n (r ∷ ms) h =
      let a = le-max_left (length r.0) (most_labels ms) in
      let b = le-max_right (length r.0) (most_labels ms) in
      let l : length r.0 < n = omega (arith, h) in
      let k : most_labels ms < n = omega (arith, h) in
      ap (λ b. cond b (r ∷ of_labels n ms) (of_labels n ms)) (eq_false (length r.0) n l) ∙ of_more n ms k

  module _ (s : List (List ℕ)) (t : IsTail q s) where
    of_same : (rs : List (Route S)) → of_labels (length s) (matching q rs) ≡ filter (λ (r : Route S). same_name s r.0) rs
    of_same rs = filter_both (λ (r : Route S). ends_name q r.0) (λ (r : Route S). nat_eq (length r.0) (length s)) (λ (r : Route S). same_name s r.0) (λ r. same_as q s t r.0) rs

    at_least : (rs : List (Route S)) (x : Route S) → last_or None (filter (λ (r : Route S). same_name s r.0) rs) ≡ Some x → (b : Bool) → nat_le (length s) (most_labels (matching q rs)) ≡ b → length s ≤ most_labels (matching q rs)
    at_least rs x h true e = true_le (length s) (most_labels (matching q rs)) e
    at_least rs x h false e =
        let l : most_labels (matching q rs) < length s = grind (arith, nat_tests) in
        let n : filter (λ (r : Route S). same_name s r.0) rs ≡ [] = sym (of_same rs) ∙ of_more (length s) (matching q rs) l in
        let k : None ≡ Some x = sym (ap (last_or None) n) ∙ h in
        absurd (cc)

    found_by : (rs : List (Route S)) → AllUnder (length s + 1) q rs → (v : S) (p : Option (Route S)) → last_under (name_key s) rs ≡ p → Some v ≡ option_map (λ (r : Route S). r.1) p → Some v ≡ chosen q rs
    found_by rs u v None e h = absurd (cc)
    found_by rs u v (Some x) e h =
        let k : last_or None (filter (λ (r : Route S). same_name s r.0) rs) ≡ Some x = sym (under_key s rs) ∙ e in
        let a = at_least rs x k (nat_le (length s) (most_labels (matching q rs))) refl in
        let b = under_most (length s) rs u in
        let m : most_labels (matching q rs) ≡ length s = omega (arith, a, b) in
        let c : chosen q rs ≡ option_map (λ (r : Route S). r.1) (Some x) =
        ap (λ n. option_map (λ (r : Route S). r.1) (last_or None (of_labels n (matching q rs)))) m ∙ ap (option_map (λ (r : Route S). r.1)) (ap (last_or None) (of_same rs) ∙ k)
        in
        h ∙ sym c

    -- a service that is found under the rest of a name is the one for the name, if none was found under more of it
    pub found : (rs : List (Route S)) (o : List ℕ) (v : S) → AllUnder (length s + 1) q rs → o ≡ name_key s → Some v ≡ option_map (λ (r : Route S). r.1) (last_under o rs) → Some v ≡ chosen q rs
    found rs o v u e h = found_by rs u v (last_under (name_key s) rs) refl (h ∙ ap (λ l. option_map (λ (r : Route S). r.1) (last_under l rs)) e)

    missed_by : (rs : List (Route S)) → AllUnder (length s + 1) q rs → filter (λ (r : Route S). same_name s r.0) rs ≡ [] → AllUnder (length s) q rs
    missed_by [] u h = tt
    missed_by (r ∷ rs) u h =
        let n = none_by r (filter (λ (r : Route S). same_name s r.0) rs) (same_name s r.0) h in
        let none : ends_name q r.0 ≡ true → nat_eq (length r.0) (length s) ≡ true → ⊥ =
        λ a b.
        let x : true ≡ false = sym (both_true (ends_name q r.0) (nat_eq (length r.0) (length s)) a b) ∙ (same_as q s t r.0 ∙ n.0) in
        cc
        in
        (λ a. less_by (length r.0) (length s) (nat_eq (length r.0) (length s)) refl (none a) (u.0 a), missed_by rs u.1 n.1)

    mapped_none : (p : Option (Route S)) → None ≡ option_map (λ (r : Route S). r.1) p → p ≡ None
    mapped_none None h = refl
    mapped_none (Some x) h = absurd (cc)

    -- if none is found under the rest of a name either
    pub missed : (rs : List (Route S)) (o : List ℕ) → AllUnder (length s + 1) q rs → o ≡ name_key s → None ≡ option_map (λ (r : Route S). r.1) (last_under o rs) → AllUnder (length s) q rs
    missed rs o u e h =
        let k : last_under o rs ≡ None = mapped_none (last_under o rs) h in
        let l : last_or None (filter (λ (r : Route S). same_name s r.0) rs) ≡ None = sym (under_key s rs) ∙ (ap (λ l. last_under l rs) (sym e) ∙ k) in
        missed_by rs u (last_none (filter (λ (r : Route S). same_name s r.0) rs) l)

  none_step : (r : Route S) (b : Bool) → (b ≡ true → length r.0 < 0) → b ≡ false
  none_step r true h = absurd (omega (arith, h refl))
  none_step r false h = refl

  none_matching : (rs : List (Route S)) → AllUnder 0 q rs → matching q rs ≡ []
  none_matching [] u = refl
  none_matching (r ∷ rs) u = ap (λ b. cond b (r ∷ matching q rs) (matching q rs)) (none_step r (ends_name q r.0) u.0) ∙ none_matching rs u.1

  -- if none is found under any rest of a name
  pub none_chosen : (rs : List (Route S)) → AllUnder 0 q rs → None ≡ chosen q rs
  none_chosen rs u = sym (ap (λ (ms : List (Route S)). option_map (λ (r : Route S). r.1) (last_or None (of_labels (most_labels ms) ms))) (none_matching rs u))

-- ---- what it means that a name ends another

pub ends_exactly : (q n : List (List ℕ)) → IsTrue (ends_name q n) ↔ EndsWith q n
ends_exactly q n =
    let d = same_name_Decides (drop (length q - length n) q) n in
    let there : ends_name q n ≡ true → EndsWith q n = λ h. record {
      enough = ends_le q n h;
      last = d.0 (second_true (nat_le (length n) (length q)) (same_name (drop (length q - length n) q) n) h);
    } in
    let back : EndsWith q n → ends_name q n ≡ true = λ e. both_true (nat_le (length n) (length q)) (same_name (drop (length q - length n) q) n) (le_true (length n) (length q) e.enough) (d.1 e.last) in
    (there, back)
