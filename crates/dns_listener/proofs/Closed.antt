-- Listeners that are closed and taken back, one by one.
use Rattle.std.proofs.Common.{◌+◌, ◌<◌, ◌≤◌, ℕ, List, [], ◌∷◌, ◌++◌, inr, length, set, subst, sym, take}
use Rattle.std.specs.List.{All, AllZip}
use Rattle.std.proofs.lemmas.List.{take_all, take_more_set}
use Rattle.std.proofs.lemmas.List.Elements.{All-push}
use Rattle.dns_book.specs.Causes.{HasShutdown}
use Rattle.dns_book.specs.declared.history.Entry.{Entry}

-- one more has a property
pub all_more : {X : Type 0} (P : X → Type 0) (ys : List X) (i : ℕ) (y : X) → i < length ys → All P (take i ys) → P y → All P (take (i + 1) (set ys i y))
all_more {X} P ys i y lt all one = subst (All P) (sym (take_more_set ys i y lt)) (All-push P (take i ys) y all one)

-- none is left
pub all_done : {X : Type 0} (P : X → Type 0) (ys : List X) (i : ℕ) → length ys ≤ i → All P (take i ys) → All P ys
all_done {X} P ys i h all = subst (All P) (take_all i ys h) all

-- one more pair
pub pairs_push : {A B : Type 0} (R : A → B → Type 0) (xs : List A) (ys : List B) (x : A) (y : B) → AllZip R xs ys → R x y → AllZip R (xs ++ x ∷ []) (ys ++ y ∷ [])
pairs_push R [] [] x y all one = (one, tt)
pairs_push R [] (w ∷ ys) x y all one = absurd all
pairs_push R (v ∷ xs) [] x y all one = absurd all
pairs_push R (v ∷ xs) (w ∷ ys) x y all one = (all.0, pairs_push R xs ys x y all.1 one)

-- a history that ends in a shutdown has one
pub shut_last : (es : List Entry) (e : Entry) → HasShutdown (e ∷ []) → HasShutdown (es ++ e ∷ [])
shut_last [] e last = last
shut_last (f ∷ es) e last = inr (shut_last es e last)
