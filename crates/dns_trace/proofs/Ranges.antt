-- Characters of a range.
use Rattle.std.proofs.Common.{◌≡◌, ℕ, ◌<◌, ◌≤◌, ◌==◌, true, false, List, ◌∷◌, ◌++◌, arith, ◌∙◌}
use Rattle.std.proofs.lemmas.Bool.{and_from}
use Rattle.std.proofs.lemmas.Bool.Decides.{nat_tests}
use Rattle.std.proofs.lemmas.List.Elements.{All-weaker}
use Rattle.std.proofs.lemmas.List.Folds.{list_all-append}
use Rattle.std.proofs.lemmas.List.Sums.{AllPass-from_list_all, list_all-from_AllPass}
use Rattle.std.specs.Int.{is_in_range}
use Rattle.std.specs.List.{All, list_all}

-- all characters are of the range
pub record AreFrom (low high : ℕ) (w : List ℕ) : Type 0 where
  pub within : list_all (is_in_range low high) w ≡ true

wider_at : (low high l h c : ℕ) → l ≤ low → high ≤ h → is_in_range low high c ≡ true → is_in_range l h c ≡ true
wider_at low high l h c below above e = grind (arith, nat_tests)

pub wider : (low high l h : ℕ) (w : List ℕ) → l ≤ low → high ≤ h → AreFrom low high w → AreFrom l h w
wider low high l h w below above all = record {
  within =
      list_all-from_AllPass (is_in_range l h) w
      (All-weaker (λ c. is_in_range low high c ≡ true) (λ c. is_in_range l h c ≡ true) (λ c e. wider_at low high l h c below above e) w (AllPass-from_list_all (is_in_range low high) w all.within));
}

lacks_at : (low high c b : ℕ) → c < low → is_in_range low high b ≡ true → (b == c) ≡ false
lacks_at low high c b below e = grind (arith, nat_tests)

-- none is one below the range
pub lacks : (low high c : ℕ) (w : List ℕ) → c < low → AreFrom low high w → All (λ b. (b == c) ≡ false) w
lacks low high c w below all =
    All-weaker (λ b. is_in_range low high b ≡ true) (λ b. (b == c) ≡ false) (λ b e. lacks_at low high c b below e) w (AllPass-from_list_all (is_in_range low high) w all.within)

pub from_append : (low high : ℕ) (v w : List ℕ) → AreFrom low high v → AreFrom low high w → AreFrom low high (v ++ w)
from_append low high v w first second = record {
  within =
      list_all-append (is_in_range low high) v w
      ∙ and_from (list_all (is_in_range low high) v) (list_all (is_in_range low high) w) first.within second.within;
}

pub from_cons : (low high c : ℕ) (w : List ℕ) → is_in_range low high c ≡ true → AreFrom low high w → AreFrom low high (c ∷ w)
from_cons low high c w here all = record { within = and_from (is_in_range low high c) (list_all (is_in_range low high) w) here all.within }
