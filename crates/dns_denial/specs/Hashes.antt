-- NSEC3s in the order of their hashes, and which parameters of hashes are refused.
use Rattle.std.specs.Prelude.{ℕ, ◌≡◌, Bool, true, not, List, length, nat_lt, if◌then◌else◌, Option, Some, None}
use Rattle.std.specs.List.{AllPairs}
use Rattle.dns_denial.specs.Nsec3.{Hashing, Nsec3State, is_lower}
use Rattle.dns_denial.specs.declared.hash.HashingError.{HashingError}
use Rattle.dns_denial.specs.declared.hash.HashingError.TheVariants.{Iterations, Salt}

-- whether an NSEC3's hash is not above another
abbrev pub is_up_to3 : List ℕ → Nsec3State → Bool
is_up_to3 o n = not (is_lower o n.hash)

abbrev pub AreSorted3 : List Nsec3State → Type 0
AreSorted3 ns = AllPairs (λ (m : Nsec3State) (n : Nsec3State). is_lower m.hash n.hash ≡ true) ns

-- more than 100 additional iterations, above which resolvers take a zone for insecure or answer SERVFAIL (RFC 9276, section 3.2 and
-- appendix A); or a salt of more than 32 octets, which is our own limit: RFC 9276, section 3.1, advises none at all
abbrev pub hashing_error : List ℕ → ℕ → Option HashingError
hashing_error salt iterations = if nat_lt 100 iterations then Some Iterations else (if nat_lt 32 (length salt) then Some Salt else None)

-- parameters that are not refused
pub record Hashes (salt : List ℕ) (iterations : ℕ) (h : Hashing) : Type 0 where
  pub allowed : hashing_error salt iterations ≡ None
  pub is : h ≡ record { salt = salt; iterations = iterations }
