-- An option that is composed reads back.
use Rattle.std.proofs.Common.{◌≡◌, ℕ, ◌≤◌, List, length, true, false, arith, refl}
use Rattle.std.proofs.lemmas.Bool.Decides.{nat_tests}
use Rattle.std.specs.Prelude.{nat_lt, nat_eq, Some, Ok}
use Rattle.dns_name.specs.OptData.{kind, whole, for_code, list_data}

pub same_number : (n : ℕ) → nat_eq n n ≡ true
same_number n = grind (arith, nat_tests)

pub not_below : (n : ℕ) → nat_lt n n ≡ false
not_below n = grind (arith, nat_tests)

pub not_above : (m n : ℕ) → n ≤ m → nat_lt m n ≡ false
not_above m n h = grind (arith, nat_tests)

-- any octets come back, under any code
pub list_again : (n : ℕ) (k : List ℕ) → length k ≤ 65535 → kind (for_code n list_data) n k ≡ Some (Ok k)
list_again n k h = rw (same_number n, not_above 65535 (length k) h, not_below (length k)) refl

-- a value that took all is the option's
pub taken_whole : {X : Type 0} (d : List ℕ) (n : ℕ) (x : X) → n ≡ length d → whole d (Ok (x, n)) ≡ Ok x
taken_whole d n x e = rw e (rw (not_below (length d)) refl)
