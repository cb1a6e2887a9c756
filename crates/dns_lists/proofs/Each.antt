-- Texts that are written one after another.
use Rattle.std.proofs.Common.{◌≡◌, ℕ, List, Bool, true, false, ◌∷◌, ◌++◌, ◌∙◌, append_assoc, refl}
use Rattle.std.specs.Prelude.{flat_map}

-- one more text
pub one_more : (text : ℕ → List ℕ) (done left more total : List ℕ) (x : ℕ) → left ≡ x ∷ more → done ++ flat_map text left ≡ total → (done ++ text x) ++ flat_map text more ≡ total
one_more text done left more total x e h = append_assoc done (text x) (flat_map text more) ∙ (rw e at h)

-- a test that doesn't hold
pub not_true : (b : Bool) → ¬ (b ≡ true) → b ≡ false
not_true true h = absurd (h refl)
not_true false h = refl
