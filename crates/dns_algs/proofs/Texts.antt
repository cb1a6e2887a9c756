-- Numbers that are written one after another.
use Rattle.std.proofs.Common.{◌≡◌, ℕ, List, ◌∷◌, ◌++◌, ◌∙◌, append_assoc}
use Rattle.std.specs.Fmt.{decimal}
use Rattle.dns_algs.specs.Algorithms.{more_algorithms_text}

-- one more number
pub more_step : (done left more total : List ℕ) (n : ℕ) → left ≡ n ∷ more → done ++ more_algorithms_text left ≡ total → (done ++ (44 ∷ 32 ∷ decimal n)) ++ more_algorithms_text more ≡ total
more_step done left more total n e h = append_assoc done (44 ∷ 32 ∷ decimal n) (more_algorithms_text more) ∙ (rw e at h)
