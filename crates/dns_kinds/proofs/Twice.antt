-- Clearing the bits past a prefix twice.
use Rattle.std.proofs.Common.{◌≡◌, ℕ, ◌-◌, ◌*◌, ◌/◌, ◌^◌, ◌<◌, List, [], ◌∷◌, Bool, true, false, refl, ap}
use Rattle.std.specs.Prelude.{min, nat_le, if◌then◌else◌}
use Rattle.std.proofs.Math.Nat.{mul-div_cancel}
use Rattle.std.proofs.lemmas.Nat.{pow_pos}
use Rattle.dns_name.specs.declared.address.IpAddr.TheVariants.{V4, V6}
use Rattle.dns_name.specs.declared.address.IpAddr.{IpAddr}
use Rattle.dns_kinds.specs.Subnet.{within_address, masked, masked_addr, mask_octet}

by_bits : (whole : Bool) (p x : ℕ) → 0 < p → (if whole then (if whole then x else x / p * p) else (if whole then x else x / p * p) / p * p) ≡ (if whole then x else x / p * p)
by_bits true p x h = refl
by_bits false p x h = ap (λ n. n * p) (mul-div_cancel (x / p) h)

octet_twice : (s x : ℕ) → mask_octet s (mask_octet s x) ≡ mask_octet s x
unfolding mask_octet
octet_twice s x = by_bits (nat_le 8 s) (2 ^ (8 - s)) x (pow_pos (8 - s))

pub masked_twice : (s : ℕ) (octets : List ℕ) → masked s (masked s octets) ≡ masked s octets
masked_twice s [] = refl
masked_twice s (x ∷ octets) = λ i. octet_twice s x i ∷ masked_twice (s - 8) octets i

-- what is masked has no bit past the prefix
pub masked_again : (s : ℕ) (octets out : List ℕ) → out ≡ masked s octets → masked s out ≡ out
masked_again s octets out h = rw h (masked_twice s octets)

pub address_twice : (s : ℕ) (a : IpAddr) → masked_addr s (masked_addr s a) ≡ masked_addr s a
address_twice s (V4 a) = ap V4 (masked_twice s a)
address_twice s (V6 a) = ap V6 (masked_twice s a)

pub subnet_twice : (s c : ℕ) (a : IpAddr) → within_address s c (within_address s c a).addr ≡ within_address s c a
subnet_twice s c (V4 a) = ap (λ (l : List ℕ). record { source = min s 32; scope = min c 32; addr = V4 l }) (masked_twice (min s 32) a)
subnet_twice s c (V6 a) = ap (λ (l : List ℕ). record { source = min s 128; scope = min c 128; addr = V6 l }) (masked_twice (min s 128) a)
