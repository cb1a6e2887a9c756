-- Sets of numbers.
use Rattle.std.proofs.Common.{◌≡◌, ℕ, true, cond, refl, ◌∙◌, arith}
use Rattle.std.specs.Prelude.{nat_eq, if◌then◌else◌}
use Rattle.std.specs.Ordering.{nat_cmp}
use Rattle.std.specs.BTreeMap.{is_at}
use Rattle.std.specs.BTreeSet.{BTreeSet, contains}
use Rattle.std.proofs.lemmas.Bool.Decides.{nat_tests}

at_is_eq : (c x : ℕ) → is_at (nat_cmp c) x ≡ nat_eq x c
at_is_eq c x = grind (arith, nat_tests)

-- what an insert says of a set, by equality of numbers
pub used_put : (s u : BTreeSet ℕ) (c : ℕ) → ((x : ℕ) → contains nat_cmp u x ≡ cond (is_at (nat_cmp c) x) true (contains nat_cmp s x)) → (x : ℕ) → contains nat_cmp u x ≡ (if nat_eq x c then true else contains nat_cmp s x)
used_put s u c h x = h x ∙ rw (at_is_eq c x) refl
