-- Keys of two octets, one after another.
use Rattle.std.proofs.Common.{◌≡◌, ℕ, ◌+◌, ◌-◌, ◌*◌, ◌<◌, ◌≤◌, List, [], ◌∷◌, Option, Some, ap, drop, length, refl, slice_index_or, sym, take, arith, ◌∙◌}
use Rattle.std.proofs.Math.Seq.{take-length}
use Rattle.dns_presentation.specs.ServiceParams.{with_key, with_keys}

-- a key that is put in goes on with those after it
pub key_goes : (ks : List ℕ) (more : List ℕ) (o : List ℕ) → 2 ≤ length o → Some more ≡ with_key ks (256 * slice_index_or o 0 0 + slice_index_or o 1 0)
    → with_keys more (take (length o - 2) (drop 2 o)) ≡ with_keys ks o
key_goes ks more [] h k = absurd (omega arith)
key_goes ks more (a ∷ []) h k = absurd (omega arith)
key_goes ks more (a ∷ b ∷ o) h k =
    let n : length (a ∷ b ∷ o) - 2 ≡ length o = omega arith in
    ap (λ (m : ℕ). with_keys more (take m o)) n ∙ (ap (with_keys more) (take-length o) ∙ rw (sym k) refl)
