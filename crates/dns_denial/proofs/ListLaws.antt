-- Members of lists: of all, of those that a test keeps, the first that passes a test.
use Rattle.std.proofs.Common.{◌≡◌, ℕ, zero, suc, ◌+◌, ◌<◌, Bool, true, false, List, [], ◌∷◌, length, map, drop, cond, get_or, Option, Some, None, refl, ap, sym, ◌∙◌, arith}
use Rattle.std.specs.Prelude.{◌||◌, ◌&&◌}
use Rattle.std.specs.List.{Contains, filter, list_all, list_any, position, position_from}
use Rattle.std.proofs.lemmas.Bool.{true≢false, and_from, and_parts}
use Rattle.std.proofs.lemmas.Iterator.Adapters.{position_from-zero}
use Rattle.std.proofs.lemmas.List.{at_drop_all, at_drop_more}
use Rattle.std.proofs.lemmas.List.Folds.{Any-from_list_any, list_any-from_Any}
use Rattle.dns_message.specs.declared.record.Record.{Record}
use Rattle.dns_zone_tree.specs.Wildcards.{are_some}

-- ---- one that passes

pub record Found {X : Type 0} (p : X → Bool) (xs : List X) : Type 0 where
  pub one : X
  pub there : Contains xs one
  pub passes : p one ≡ true

pub found : {X : Type 0} (p : X → Bool) (xs : List X) → list_any p xs ≡ true → Found p xs
found p xs h = let a = Any-from_list_any p xs h in record { one = a.1; there = (a.0, a.2, a.3); passes = a.4 }

pub present : {X : Type 0} (p : X → Bool) (xs : List X) (x : X) → Contains xs x → p x ≡ true → list_any p xs ≡ true
present p xs x c h = list_any-from_Any p xs (c.0, x, c.1, c.2, h)

-- ---- all

pub all_of : {X : Type 0} (p : X → Bool) (xs : List X) → ((x : X) → Contains xs x → p x ≡ true) → list_all p xs ≡ true
all_of p [] h = refl
all_of p (x ∷ xs) h = and_from (p x) (list_all p xs) (h x (zero, omega arith, refl)) (all_of p xs (λ y c. h y (suc c.0, omega arith, c.2)))

pub each_of : {X : Type 0} (p : X → Bool) (xs : List X) → list_all p xs ≡ true → (x : X) → Contains xs x → p x ≡ true
each_of p [] h x c = absurd (omega (arith, c.1))
each_of p (y ∷ ys) h x (zero, l, e) = ap p (sym e) ∙ (and_parts (p y) (list_all p ys) h).0
each_of p (y ∷ ys) h x (suc k, l, e) = each_of p ys (and_parts (p y) (list_all p ys) h).1 x (k, omega arith, e)

-- ---- what a filter keeps

pub record Kept {X : Type 0} (p : X → Bool) (xs : List X) (x : X) : Type 0 where
  pub there : Contains xs x
  pub passes : p x ≡ true

kept_step : {X : Type 0} (p : X → Bool) (y : X) (ys : List X) (x : X) (b : Bool) → p y ≡ b → (Contains (filter p ys) x → Kept p ys x) → Contains (cond b (y ∷ filter p ys) (filter p ys)) x → Kept p (y ∷ ys) x
kept_step p y ys x true e ih (zero, l, q) = record { there = (zero, omega arith, q); passes = ap p (sym q) ∙ e }
kept_step p y ys x true e ih (suc k, l, q) = let i = ih (k, omega arith, q) in record { there = (suc i.there.0, omega (arith, i.there.1), i.there.2); passes = i.passes }
kept_step p y ys x false e ih c = let i = ih c in record { there = (suc i.there.0, omega (arith, i.there.1), i.there.2); passes = i.passes }

pub kept : {X : Type 0} (p : X → Bool) (xs : List X) (x : X) → Contains (filter p xs) x → Kept p xs x
kept p [] x c = absurd (omega (arith, c.1))
kept p (y ∷ ys) x c = kept_step p y ys x (p y) refl (kept p ys x) c

some_step : (b c : Bool) (r : Record) (ks : List Record) → are_some ks ≡ c → are_some (cond b (r ∷ ks) ks) ≡ (b || c)
some_step true c r ks h = refl
some_step false c r ks h = h

-- it keeps some if a test passes
pub some_any : (p : Record → Bool) (rs : List Record) → are_some (filter p rs) ≡ list_any p rs
some_any p [] = refl
some_any p (r ∷ rs) = some_step (p r) (list_any p rs) r (filter p rs) (some_any p rs)

pub some_mapped : (f : Record → Record) (rs : List Record) → are_some (map f rs) ≡ are_some rs
some_mapped f [] = refl
some_mapped f (r ∷ rs) = refl

-- the first that it keeps
pub record First (p : Record → Bool) (xs : List Record) : Type 0 where
  pub one : Record
  pub there : Contains xs one
  pub passes : p one ≡ true
  pub more : List Record
  pub is : filter p xs ≡ one ∷ more

first_step : (p : Record → Bool) (y : Record) (ys : List Record) (b : Bool) → p y ≡ b → (list_any p ys ≡ true → First p ys) → (b || list_any p ys) ≡ true → First p (y ∷ ys)
first_step p y ys true e ih h = record { one = y; there = (zero, omega arith, refl); passes = e; more = filter p ys; is = ap (λ (b : Bool). cond b (y ∷ filter p ys) (filter p ys)) e }
first_step p y ys false e ih h =
    let i = ih h in
    record { one = i.one; there = (suc i.there.0, omega (arith, i.there.1), i.there.2); passes = i.passes; more = i.more; is = ap (λ (b : Bool). cond b (y ∷ filter p ys) (filter p ys)) e ∙ i.is }

pub first : (p : Record → Bool) (xs : List Record) → list_any p xs ≡ true → First p xs
first p [] h = absurd (true≢false (sym h))
first p (y ∷ ys) h = first_step p y ys (p y) refl (first p ys) h

-- ---- the place of the first that passes

module _ {X : Type 0} (p : X → Bool) where
  none_step : (b c : Bool) (i : ℕ) (o : Option ℕ) → (o ≡ None → c ≡ false) → cond b (Some i) o ≡ None → (b || c) ≡ false
  none_step true c i o ih h = absurd (cc)
  none_step false c i o ih h = ih h

  none_from : (i : ℕ) (xs : List X) → position_from p i xs ≡ None → list_any p xs ≡ false
  none_from i [] h = refl
  none_from i (x ∷ xs) h = none_step (p x) (list_any p xs) i (position_from p (i + 1) xs) (none_from (i + 1) xs) h

  -- none passes if there is no place
  pub no_place : (xs : List X) → position p xs ≡ None → list_any p xs ≡ false
  no_place xs h = none_from 0 xs (sym (position_from-zero p xs) ∙ h)

  some_place_step : (b c : Bool) (i j : ℕ) (o : Option ℕ) → (o ≡ Some j → c ≡ true) → cond b (Some i) o ≡ Some j → (b || c) ≡ true
  some_place_step true c i j o ih h = refl
  some_place_step false c i j o ih h = ih h

  some_from : (i j : ℕ) (xs : List X) → position_from p i xs ≡ Some j → list_any p xs ≡ true
  some_from i j [] h = absurd (cc)
  some_from i j (x ∷ xs) h = some_place_step (p x) (list_any p xs) i j (position_from p (i + 1) xs) (some_from (i + 1) j xs) h

  -- and one does if there is one
  pub some_place : (j : ℕ) (xs : List X) → position p xs ≡ Some j → list_any p xs ≡ true
  some_place j xs h = some_from 0 j xs (sym (position_from-zero p xs) ∙ h)

  module _ (xs : List X) where
    one_more : (i : ℕ) (x : X) → i < length xs → x ≡ get_or xs i x → (b : Bool) → p x ≡ b → position_from p i (drop i xs) ≡ cond b (Some i) (position_from p (i + 1) (drop (i + 1) xs))
    one_more i x h e b t = at_drop_more (position_from p i) xs i x h ∙ ap (λ c. cond c (Some i) (position_from p (i + 1) (drop (i + 1) xs))) (ap p (sym e) ∙ t)

    pub found_first : (i : ℕ) (x : X) → i < length xs → x ≡ get_or xs i x → position_from p i (drop i xs) ≡ position_from p 0 xs → p x ≡ true → Some i ≡ position p xs
    found_first i x h e s t = sym (one_more i x h e true t) ∙ (s ∙ sym (position_from-zero p xs))

    pub passed_by : (i : ℕ) (x : X) → i < length xs → x ≡ get_or xs i x → position_from p i (drop i xs) ≡ position_from p 0 xs → p x ≡ false → position_from p (i + 1) (drop (i + 1) xs) ≡ position_from p 0 xs
    passed_by i x h e s t = sym (one_more i x h e false t) ∙ s

    pub found_none : (i : ℕ) → length xs ≡ i → position_from p i (drop i xs) ≡ position_from p 0 xs → None ≡ position p xs
    found_none i n s = sym (at_drop_all (position_from p i) xs i (omega (arith, n))) ∙ (s ∙ sym (position_from-zero p xs))
