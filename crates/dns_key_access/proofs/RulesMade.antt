-- Rules that are made one by one.
use Rattle.std.proofs.Common.{◌≡◌, ℕ, ◌+◌, ◌<◌, ◌≤◌, List, [], ◌∷◌, ◌++◌, length, take, map, get_or, Option, Some, sym, ap, ◌∙◌, arith}
use Rattle.std.proofs.lemmas.List.{map-append, take_all, take_more}

pub one_made : {A B : Type 0} (f : A → Option B) (xs : List A) (made : List B) (i : ℕ) (x : A) (y : B) → i < length xs → x ≡ get_or xs i x → f x ≡ Some y → map f (take i xs) ≡ map Some made → map f (take (i + 1) xs) ≡ map Some (made ++ y ∷ [])
one_made f xs made i x y p e g h =
    ap (map f) (take_more xs i x p ∙ ap (λ z. take i xs ++ z ∷ []) (sym e)) ∙
    (map-append f (take i xs) (x ∷ []) ∙ (ap (λ z. z ++ f x ∷ []) h ∙ (ap (λ z. map Some made ++ z ∷ []) g ∙ sym (map-append Some made (y ∷ [])))))

pub all_made : {A B : Type 0} (f : A → Option B) (xs : List A) (made : List B) (i : ℕ) → length xs ≤ i → map f (take i xs) ≡ map Some made → map f xs ≡ map Some made
all_made f xs made i p h = ap (map f) (sym (take_all i xs p)) ∙ h
