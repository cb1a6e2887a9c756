-- Subnets come back.
use Rattle.std.proofs.Common.{◌≡◌, ℕ, zero, suc, ◌+◌, ◌-◌, ◌*◌, ◌≤◌, ◌<◌, List, [], ◌∷◌, ◌++◌, length, take, drop, replicate, true, false, refl, sym, ap, arith, ◌∙◌}
use Rattle.std.proofs.lemmas.Bool.{and_parts}
use Rattle.std.proofs.lemmas.Bool.Decides.{nat_tests}
use Rattle.std.specs.Prelude.{nat_lt, nat_eq, Some, Ok}
use Rattle.std.specs.Cmp.Lexicographic.{pointwise}
use Rattle.std.specs.List.{list_all}
use Rattle.dns_name.specs.Addresses.{address_octets}
use Rattle.dns_name.specs.OptData.{kind, whole, for_code}
use Rattle.dns_name.proofs.OptionRoundTrip.{same_number, taken_whole}
use Rattle.dns_name.specs.declared.address.IpAddr.TheVariants.{V4, V6}
use Rattle.dns_name.specs.declared.address.IpAddr.{IpAddr}
use Rattle.dns_kinds.specs.Subnet.{AreOctets, IsClear, IsSubnet, Subnet, mask_octet, masked, octets_for, with_zeros, address, with_address, subnet_data, subnet_octets}

alike : (a : List ℕ) → pointwise nat_eq a a ≡ true
alike [] = refl
alike (x ∷ a) = rw (same_number x, alike a) refl

octet_small : (x : ℕ) → nat_lt x 256 ≡ true → x < 256
octet_small x h = grind (arith, nat_tests)

all_octets : (x : ℕ) (a : List ℕ) → AreOctets (x ∷ a) → (x < 256) × AreOctets a
all_octets x a h = let parts = and_parts (nat_lt x 256) (list_all (λ y. nat_lt y 256) a) h in (octet_small x parts.0, parts.1)

-- an octet without any bit is 0
no_bits : (x : ℕ) → x < 256 → mask_octet 0 x ≡ x → x ≡ 0
unfolding mask_octet
no_bits x h e = omega arith

more_octets : (s : ℕ) → octets_for (suc s) ≡ suc (octets_for (suc s - 8))
more_octets s = omega arith

-- what stands past the bits is zeros
pub padded_again : (s : ℕ) (a : List ℕ) → AreOctets a → masked s a ≡ a
    → take (octets_for s) a ++ drop (octets_for s) (replicate (length a) 0) ≡ a
padded_again zero [] small e = refl
padded_again (suc s) [] small e = rw (more_octets s) refl
padded_again zero (x ∷ a) small e =
    let parts = all_octets x a small in
    let first : mask_octet 0 x ≡ x = cc in
    let more : masked 0 a ≡ a = cc in
    let none : x ≡ 0 = no_bits x parts.0 first in
    let rest : replicate (length a) 0 ≡ a = padded_again zero a parts.1 more in
    cc
padded_again (suc s) (x ∷ a) small e =
    let parts = all_octets x a small in
    let more : masked (suc s - 8) a ≡ a = cc in
    rw (more_octets s) (ap (λ l. x ∷ l) (padded_again (suc s - 8) a parts.1 more))

length_take : (n : ℕ) (a : List ℕ) → n ≤ length a → length (take n a) ≡ n
length_take zero a h = refl
length_take (suc n) [] h = absurd (omega arith)
length_take (suc n) (x ∷ a) h = ap suc (length_take n a (omega arith))

enough : (s w : ℕ) → s ≤ 8 * w → octets_for s ≤ w
enough s w h = omega arith

too_few : (w n : ℕ) → n ≤ w → nat_lt w n ≡ false
too_few w n h = grind (arith, nat_tests)

-- an address without bits past the prefix comes back
pub address_again : (w s : ℕ) (a : List ℕ) → s ≤ 8 * w → length a ≡ w → masked s a ≡ a → AreOctets a
    → (address w s (take (octets_for s) a) ≡ Ok a) × (length (take (octets_for s) a) ≡ octets_for s)
unfolding address
address_again w s a short size clear small =
    let room : octets_for s ≤ w = enough s w short in
    let taken : length (take (octets_for s) a) ≡ octets_for s = length_take (octets_for s) a (omega arith) in
    let back = padded_again s a small clear in
    let full : with_zeros w (take (octets_for s) a) ≡ a = rw (taken, sym size) back in
    let same : pointwise nat_eq (masked s a) a ≡ true = rw clear (alike a) in
    (rw (too_few w (octets_for s) room, full, taken, same_number (octets_for s), same) refl, taken)

v4_again : (s c : ℕ) (a : List ℕ) → IsSubnet s (V4 a) → AreOctets a
    → kind (for_code 8 subnet_data) 8 (0 ∷ 1 ∷ s ∷ c ∷ take (octets_for s) a) ≡ Some (Ok (record { source = s; scope = c; addr = V4 a }))
v4_again s c a h o =
    let back = address_again 4 s a h.0 h.1 h.2 o in
    let d : List ℕ = 0 ∷ 1 ∷ s ∷ c ∷ take (octets_for s) a in
    let long : length (take (octets_for s) a) + 4 ≡ length d = omega arith in
    ap (λ x. Some (whole d (with_address V4 s c (length (take (octets_for s) a) + 4) x))) back.0 ∙ ap (λ x. Some x)
    (taken_whole d (length (take (octets_for s) a) + 4) (record { source = s; scope = c; addr = V4 a }) long)

v6_again : (s c : ℕ) (a : List ℕ) → IsSubnet s (V6 a) → AreOctets a
    → kind (for_code 8 subnet_data) 8 (0 ∷ 2 ∷ s ∷ c ∷ take (octets_for s) a) ≡ Some (Ok (record { source = s; scope = c; addr = V6 a }))
v6_again s c a h o =
    let back = address_again 16 s a h.0 h.1 h.2 o in
    let d : List ℕ = 0 ∷ 2 ∷ s ∷ c ∷ take (octets_for s) a in
    let long : length (take (octets_for s) a) + 4 ≡ length d = omega arith in
    ap (λ x. Some (whole d (with_address V6 s c (length (take (octets_for s) a) + 4) x))) back.0 ∙ ap (λ x. Some x)
    (taken_whole d (length (take (octets_for s) a) + 4) (record { source = s; scope = c; addr = V6 a }) long)

by_address : (s c : ℕ) (x : IpAddr) → IsSubnet s x → AreOctets (address_octets x)
    → kind (for_code 8 subnet_data) 8 (subnet_octets (record { source = s; scope = c; addr = x }))
    ≡ Some (Ok (record { source = s; scope = c; addr = x }))
by_address s c (V4 a) h o = v4_again s c a h o
by_address s c (V6 a) h o = v6_again s c a h o

-- a subnet comes back
pub subnet_again : (k : Subnet) → IsClear k → kind (for_code 8 subnet_data) 8 (subnet_octets k) ≡ Some (Ok k)
subnet_again k h = by_address k.source k.scope k.addr h.0 h.1
