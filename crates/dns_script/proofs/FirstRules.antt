-- The first of all rules, if it is for all names.
use Rattle.std.proofs.Common.{◌≡◌, ℕ, List, [], ◌∷◌, Option, Some, None, refl}
use Rattle.std.specs.List.{slice_get}
use Rattle.dns_script.specs.Rules.{answers_for}
use Rattle.dns_script.specs.declared.rule.Rule.{Rule}

pub first_for_all : (rules : List Rule) (rule : Rule) (asked : Option (List (List ℕ))) → slice_get rules 0 ≡ Some rule → rule.name ≡ None → answers_for rules asked ≡ rule.answers
first_for_all [] rule asked h n = absurd (cc h)
first_for_all (x ∷ xs) rule asked h n = let e : x ≡ rule = cc h in rw (e, n) refl
