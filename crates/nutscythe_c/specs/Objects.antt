-- Objects that a caller from C passes: one at its pointer, or none if that is null. A call looks at the first alone.
use Rattle.std.specs.Prelude.{◌≡◌, List, [], ◌∷◌}

-- a fact of the object that is read, or another one if there is none
abbrev pub OfOne : {A : Type 0} → List A → (A → Type 0) → Type 0 → Type 0
OfOne [] given missing = missing
OfOne (x ∷ xs) given missing = given x

-- a fact of the object before and after, and those after it stay; or another fact if there is none
abbrev pub OfFirst : {A : Type 0} → List A → List A → (A → A → Type 0) → Type 0 → Type 0
OfFirst [] after given missing = missing
OfFirst {A} (x ∷ xs) after given missing = (y : A) × (after ≡ y ∷ xs) × given x y
