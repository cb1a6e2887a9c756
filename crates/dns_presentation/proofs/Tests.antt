-- Tests that decide the same are the same.
use Rattle.std.proofs.Common.{◌≡◌, ◌↔◌, ℕ, List, Bool, true, false, IsTrue, refl, sym}
use Rattle.std.specs.Str.{bytes_eq}
use Rattle.std.proofs.lemmas.Slice.Eq.{bytes_eq-Decides}

same_tests : (a b : Bool) → (a ≡ true → b ≡ true) → (b ≡ true → a ≡ true) → a ≡ b
same_tests true b f g = sym (f refl)
same_tests false true f g = g refl
same_tests false false f g = refl

pub decided : (r : Bool) (x y : List ℕ) → (IsTrue r ↔ (x ≡ y)) → r ≡ bytes_eq x y
decided r x y h = same_tests r (bytes_eq x y) (λ e. (bytes_eq-Decides x y).1 (h.0 e)) (λ e. h.1 ((bytes_eq-Decides x y).0 e))
