-- Octets at hand are octets.
use Rattle.std.proofs.Common.{◌≡◌, ℕ, ◌<◌, List, [], ◌∷◌, suc, true, refl, arith}
use Rattle.std.proofs.lemmas.Bool.Decides.{nat_tests}
use Rattle.std.specs.Prelude.{nat_lt, slice_index}
use Rattle.dns_kinds.specs.Subnet.{AreOctets}

below_is : (k n : ℕ) → k < n → nat_lt k n ≡ true
below_is k n h = grind (arith, nat_tests)

-- octets, from what is known of each
pub small_is : (a : List ℕ) → ((k : ℕ) → slice_index a k < 256) → AreOctets a
small_is [] h = refl
small_is (x ∷ a) h = rw (below_is x 256 (h 0), small_is a (λ k. h (suc k))) refl
