use Rattle.std.proofs.Common.{◌≡◌, ◌++◌, ℕ, List, length}
use Rattle.std.specs.Prelude.{codes, flat_map}
use Rattle.dns_script.proofs.service_text.push_labels.Given as goal

-- the labels that are left make the whole
abbrev pub invariant-labels : goal.invariant-labels
invariant-labels l = l.text ++ flat_map (λ (label : List ℕ). label ++ codes ".") l.labels ≡ l.fn.text ++ flat_map (λ (label : List ℕ). label ++ codes ".") l.name

abbrev pub decreases-labels : goal.decreases-labels
decreases-labels l = length l.labels
