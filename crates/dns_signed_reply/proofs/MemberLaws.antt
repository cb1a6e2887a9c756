-- Members of lists that are joined, filtered and gathered.
use Rattle.std.proofs.Common.{◌≡◌, zero, suc, Bool, true, false, List, [], ◌∷◌, ◌++◌, cond, refl, ap, sym, subst, ◌∙◌, arith, inl, inr}
use Rattle.std.specs.Prelude.{◌⊎◌}
use Rattle.std.specs.List.{Contains, filter, flat_map}
use Rattle.std.proofs.lemmas.Bool.{true≢false}

pub in_left : {X : Type 0} (xs ys : List X) (x : X) → Contains xs x → Contains (xs ++ ys) x
in_left [] ys x c = absurd (omega (arith, c.1))
in_left (y ∷ xs) ys x (zero, l, e) = (zero, omega arith, e)
in_left (y ∷ xs) ys x (suc k, l, e) = let i = in_left xs ys x (k, omega (arith, l), e) in (suc i.0, omega (arith, i.1), i.2)

pub in_right : {X : Type 0} (xs ys : List X) (x : X) → Contains ys x → Contains (xs ++ ys) x
in_right [] ys x c = c
in_right (y ∷ xs) ys x c = let i = in_right xs ys x c in (suc i.0, omega (arith, i.1), i.2)

pub in_flat : {X A : Type 0} (f : X → List A) (xs : List X) (x : X) (a : A) → Contains xs x → Contains (f x) a → Contains (flat_map f xs) a
in_flat {X} f [] x a c k = absurd (omega (arith, c.1))
in_flat {X} f (y ∷ xs) x a (zero, l, e) k = in_left (f y) (flat_map f xs) a (subst (λ (v : X). Contains (f v) a) (sym e) k)
in_flat {X} f (y ∷ xs) x a (suc i, l, e) k = in_right (f y) (flat_map f xs) a (in_flat f xs x a (i, omega (arith, l), e) k)

filter_step : {X : Type 0} (x : X) (zs : List X) (b : Bool) → b ≡ true → Contains (cond b (x ∷ zs) zs) x
filter_step x zs true e = (zero, omega arith, refl)
filter_step x zs false e = absurd (true≢false (sym e))

filter_tail : {X : Type 0} (x y : X) (zs : List X) (b : Bool) → Contains zs x → Contains (cond b (y ∷ zs) zs) x
filter_tail x y zs true c = (suc c.0, omega (arith, c.1), c.2)
filter_tail x y zs false c = c

pub in_filter : {X : Type 0} (p : X → Bool) (xs : List X) (x : X) → Contains xs x → p x ≡ true → Contains (filter p xs) x
in_filter {X} p [] x c h = absurd (omega (arith, c.1))
in_filter {X} p (y ∷ xs) x (zero, l, e) h = subst (λ (v : X). Contains (cond (p y) (y ∷ filter p xs) (filter p xs)) v) e (filter_step y (filter p xs) (p y) (ap p e ∙ h))
in_filter {X} p (y ∷ xs) x (suc k, l, e) h = filter_tail x y (filter p xs) (p y) (in_filter p xs x (k, omega (arith, l), e) h)

from_filter_step : {X : Type 0} (p : X → Bool) (y : X) (ys zs : List X) (x : X) (b : Bool) → p y ≡ b → (Contains zs x → Contains ys x × (p x ≡ true)) → Contains (cond b (y ∷ zs) zs) x → Contains (y ∷ ys) x × (p x ≡ true)
from_filter_step p y ys zs x true e ih (zero, l, q) = ((zero, omega arith, q), ap p (sym q) ∙ e)
from_filter_step p y ys zs x true e ih (suc k, l, q) = let i = ih (k, omega arith, q) in ((suc i.0.0, omega (arith, i.0.1), i.0.2), i.1)
from_filter_step p y ys zs x false e ih c = let i = ih c in ((suc i.0.0, omega (arith, i.0.1), i.0.2), i.1)

pub from_filter : {X : Type 0} (p : X → Bool) (xs : List X) (x : X) → Contains (filter p xs) x → Contains xs x × (p x ≡ true)
from_filter p [] x c = absurd (omega (arith, c.1))
from_filter p (y ∷ ys) x c = from_filter_step p y ys (filter p ys) x (p y) refl (from_filter p ys x) c

-- a member of a list that is joined is one of either
pub from_both : {X : Type 0} (xs ys : List X) (x : X) → Contains (xs ++ ys) x → Contains xs x ⊎ Contains ys x
from_both [] ys x c = inr c
from_both (y ∷ xs) ys x (zero, l, e) = inl (zero, omega arith, e)
from_both (y ∷ xs) ys x (suc k, l, e) = one_more y xs ys x (from_both xs ys x (k, omega (arith, l), e))
  where
    one_more : {X : Type 0} (y : X) (xs ys : List X) (x : X) → Contains xs x ⊎ Contains ys x → Contains (y ∷ xs) x ⊎ Contains ys x
    one_more y xs ys x (inl c) = inl (suc c.0, omega (arith, c.1), c.2)
    one_more y xs ys x (inr c) = inr c

-- a member of a list that is gathered is one of a part
pub from_flat : {X A : Type 0} (f : X → List A) (xs : List X) (a : A) → Contains (flat_map f xs) a → (x : X) × Contains xs x × Contains (f x) a
from_flat f [] a c = absurd (omega (arith, c.1))
from_flat f (y ∷ xs) a c = by_part f y xs a (from_both (f y) (flat_map f xs) a c) (from_flat f xs a)
  where
    by_part : {X A : Type 0} (f : X → List A) (y : X) (xs : List X) (a : A) → Contains (f y) a ⊎ Contains (flat_map f xs) a → (Contains (flat_map f xs) a → (x : X) × Contains xs x × Contains (f x) a) → (x : X) × Contains (y ∷ xs) x × Contains (f x) a
    by_part f y xs a (inl c) ih = (y, (zero, omega arith, refl), c)
    by_part f y xs a (inr c) ih = let i = ih c in (i.0, (suc i.1.0, omega (arith, i.1.1), i.1.2), i.2)
