-- A field after others.
use Rattle.std.proofs.Common.{◌≡◌, ℕ, List, [], ◌∷◌, ◌++◌, ap, ◌∙◌}
use Rattle.http_header.specs.FieldValue.{FieldValue}
use Rattle.http1.specs.Fields.{Header}

abbrev bytes_of : FieldValue → List ℕ
bytes_of v = v.bytes

pub field_added : (fs : List Header) (n m : List ℕ) (v w : FieldValue) → n ≡ m → v ≡ w → fs ++ (n, v.bytes) ∷ [] ≡ fs ++ (m, w.bytes) ∷ []
field_added fs n m v w p q = ap (λ x. fs ++ (x, v.bytes) ∷ []) p ∙ ap (λ x. fs ++ (m, bytes_of x) ∷ []) q
