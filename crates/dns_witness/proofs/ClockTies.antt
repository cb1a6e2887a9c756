-- A witness of a clock stays tied to it.
use Rattle.std.proofs.Common.{◌≡◌, ℕ, List, [], ◌∷◌, ◌++◌, sym, ◌∙◌, ap, append-nil, append_assoc}
use Rattle.std.proofs.Math.Logic.{∥∥₁_map}
use Rattle.dns_io.specs.Causes.{Observed}
use Rattle.dns_witness.specs.Since.{ReadingsSince}

abbrev Readings : Type 0
Readings = List (ℕ × ℕ)

pub tied_first : (T : Type 0) (a b t : Readings) → b ≡ a → t ≡ [] → ∥ Observed T T (ReadingsSince a b t) ∥₁
tied_first T a b t same none = ∣ record { observed = λ now. (now, rw (same, none) (sym (append-nil a))) } ∣₁

module _ (before was now : Type 0) (a b b' t t' : Readings) where
  pub tied_reading : (r : ℕ × ℕ) → ∥ Observed was before (ReadingsSince a b t) ∥₁ → Observed now was (b' ≡ b ++ r ∷ []) → t' ≡ t ++ r ∷ [] → ∥ Observed now before (ReadingsSince a b' t') ∥₁
  tied_reading r tied moves seen = ∥∥₁_map tied (λ x. record { observed = λ n. let m = moves.observed n in let y = x.observed m.0 in (y.0, m.1 ∙ ap (λ (l : Readings). l ++ r ∷ []) y.1 ∙ append_assoc a t (r ∷ []) ∙ ap (λ (l : Readings). a ++ l) (sym seen)) })

pub tied_still : (before was now : Type 0) (a b b' t : Readings) → ∥ Observed was before (ReadingsSince a b t) ∥₁ → Observed now was (b' ≡ b) → ∥ Observed now before (ReadingsSince a b' t) ∥₁
tied_still before was now a b b' t tied moves = ∥∥₁_map tied (λ x. record { observed = λ n. let m = moves.observed n in let y = x.observed m.0 in (y.0, rw (m.1) y.1) })
