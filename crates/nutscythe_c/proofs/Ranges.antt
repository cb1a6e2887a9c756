-- A number in its range stays.
use Rattle.std.proofs.Common.{◌≡◌, ℕ, Bool, true, false, refl, ap, subst, Option, Some, None, arith}
use Rattle.std.specs.Prelude.{nat_eq, ◌||◌, if◌then◌else◌}
use Rattle.std.proofs.lemmas.Bool.Decides.{nat_tests}
use Rattle.dns_events.specs.Config.{in_range, limited_budget, limited_size}
use Rattle.nutscythe_c.specs.Rules.{given}
use Rattle.nutscythe_c.specs.Servers.{is_between, is_zero_or_between}

pub stays : (low high n : ℕ) → is_between low high n ≡ true → in_range low high n ≡ n
stays low high n e = grind (arith, nat_tests)

-- and so does one that isn't 0
stays_else : (low high n : ℕ) → nat_eq n 0 ≡ false → is_zero_or_between low high n ≡ true → in_range low high n ≡ n
stays_else low high n z e = stays low high n (subst (λ (x : Bool). (x || is_between low high n) ≡ true) z e)

-- none, or a number
abbrev unless : Bool → ℕ → Option ℕ
unless x n = if x then None else Some n

size_at : (n : ℕ) (x : Bool) → nat_eq n 0 ≡ x → is_zero_or_between 512 4096 n ≡ true → limited_size (unless x n) ≡ unless x n
size_at n true z e = refl
size_at n false z e = ap (λ (m : ℕ). Some m) (stays_else 512 4096 n z e)

pub size_stays : (n : ℕ) → is_zero_or_between 512 4096 n ≡ true → limited_size (given n n) ≡ given n n
size_stays n e = size_at n (nat_eq n 0) refl e

budget_at : (n : ℕ) (x : Bool) → nat_eq n 0 ≡ x → is_zero_or_between 1 1000000 n ≡ true → limited_budget (unless x n) ≡ unless x n
budget_at n true z e = refl
budget_at n false z e = ap (λ (m : ℕ). Some m) (stays_else 1 1000000 n z e)

pub budget_stays : (n : ℕ) → is_zero_or_between 1 1000000 n ≡ true → limited_budget (given n n) ≡ given n n
budget_stays n e = budget_at n (nat_eq n 0) refl e
