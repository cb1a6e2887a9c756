-- CLIENT-SUBNET (RFC 7871, section 6).
use Rattle.std.specs.Prelude.{◌≡◌, ℕ, ◌+◌, ◌-◌, ◌*◌, ◌/◌, ◌^◌, ◌≤◌, true, List, [], ◌∷◌, ◌++◌, length, take, drop, replicate, Result, Ok, Err, nat_lt, nat_le, nat_eq, min, if◌then◌else◌}
use Rattle.std.specs.declared.cmp.Ordering.{Ordering}
use Rattle.std.specs.declared.cmp.Ordering.TheVariants.{Less, Greater}
use Rattle.std.specs.Cmp.Lexicographic.{pointwise, slice_cmp}
use Rattle.std.specs.List.{list_all}
use Rattle.std.specs.Ordering.{nat_cmp, ordering_then}
use Rattle.dns_name.specs.declared.error.ParseError.{ParseError}
use Rattle.dns_name.specs.declared.error.ParseError.TheVariants.{ShortInput, Form}
use Rattle.dns_name.specs.declared.error.FormReason.TheVariants.{Family, AddressLength, AddressBits}
use Rattle.dns_name.specs.declared.address.IpAddr.{IpAddr}
use Rattle.dns_name.specs.declared.address.IpAddr.TheVariants.{V4, V6}
use Rattle.dns_name.specs.Addresses.{address_octets}
use Rattle.dns_name.specs.OptData.{Taken}
use Rattle.dns_name.specs.Place.{be16}

-- an address, how many of its bits were sent, and how many an answer is for
pub record Subnet : Type 0 where
  pub source : ℕ
  pub scope : ℕ
  pub addr : IpAddr

-- an octet with the bits past the first s cleared
unfoldable pub mask_octet : ℕ → ℕ → ℕ
mask_octet s x = if nat_le 8 s then x else x / 2 ^ (8 - s) * 2 ^ (8 - s)

-- octets with the bits past the first s cleared
abbrev pub masked : ℕ → List ℕ → List ℕ
masked s [] = []
masked s (x ∷ xs) = mask_octet s x ∷ masked (s - 8) xs

-- how many octets that many bits take
abbrev pub octets_for : ℕ → ℕ
octets_for s = (s + 7) / 8

-- octets with zeros after them, w in all
abbrev pub with_zeros : ℕ → List ℕ → List ℕ
with_zeros w d = d ++ drop (length d) (replicate w 0)

-- the address of w octets that octets stand for under s bits, or why they stand for none
unfoldable pub address : ℕ → ℕ → List ℕ → Result (List ℕ) ParseError
address w s d =
    if nat_lt w (octets_for s) then Err (Form AddressLength)
    else (if nat_eq (length d) (octets_for s)
    then (if pointwise nat_eq (masked s (with_zeros w d)) (with_zeros w d) then Ok (with_zeros w d) else Err (Form AddressBits))
    else Err (Form AddressLength))

abbrev pub with_address : (List ℕ → IpAddr) → ℕ → ℕ → ℕ → Result (List ℕ) ParseError → Taken Subnet
with_address make s c n (Ok a) = Ok (record { source = s; scope = c; addr = make a }, n)
with_address make s c n (Err e) = Err e

abbrev pub by_family : ℕ → ℕ → ℕ → List ℕ → Taken Subnet
by_family f s c d =
    if nat_eq f 1 then with_address V4 s c (length d + 4) (address 4 s d)
    else (if nat_eq f 2 then with_address V6 s c (length d + 4) (address 16 s d) else Err (Form Family))

abbrev pub subnet_data : List ℕ → Taken Subnet
subnet_data [] = Err ShortInput
subnet_data (a ∷ []) = Err ShortInput
subnet_data (a ∷ b ∷ []) = Err ShortInput
subnet_data (a ∷ b ∷ s ∷ []) = Err ShortInput
subnet_data (a ∷ b ∷ s ∷ c ∷ d) = by_family (be16 a b) s c d

-- the bits of an address
abbrev pub width : IpAddr → ℕ
width (V4 a) = 32
width (V6 a) = 128

abbrev pub family : IpAddr → ℕ
family (V4 a) = 1
family (V6 a) = 2

abbrev pub masked_addr : ℕ → IpAddr → IpAddr
masked_addr s (V4 a) = V4 (masked s a)
masked_addr s (V6 a) = V6 (masked s a)

-- both prefixes within the address, and the bits past the source prefix cleared
abbrev pub within_address : ℕ → ℕ → IpAddr → Subnet
within_address s c a = record { source = min s (width a); scope = min c (width a); addr = masked_addr (min s (width a)) a }

abbrev pub subnet_octets : Subnet → List ℕ
subnet_octets k = 0 ∷ family k.addr ∷ k.source ∷ k.scope ∷ take (octets_for k.source) (address_octets k.addr)

-- the source prefix is within the address, which has no bit past it
abbrev pub IsSubnet : ℕ → IpAddr → Type 0
IsSubnet s (V4 a) = (s ≤ 32) × (length a ≡ 4) × (masked s a ≡ a)
IsSubnet s (V6 a) = (s ≤ 128) × (length a ≡ 16) × (masked s a ≡ a)

-- numbers that are octets
abbrev pub AreOctets : List ℕ → Type 0
AreOctets a = list_all (λ x. nat_lt x 256) a ≡ true

-- the subnets that come back
abbrev pub IsClear : Subnet → Type 0
IsClear k = IsSubnet k.source k.addr × AreOctets (address_octets k.addr)

-- the order of addresses: those of version 4 first, and of one version by their octets
abbrev pub addr_cmp : IpAddr → IpAddr → Ordering
addr_cmp (V4 a) (V4 b) = slice_cmp nat_cmp a b
addr_cmp (V4 a) (V6 b) = Less
addr_cmp (V6 a) (V4 b) = Greater
addr_cmp (V6 a) (V6 b) = slice_cmp nat_cmp a b

-- the order of subnets: by the source prefix, then the scope prefix, then the address
abbrev pub subnet_cmp : Subnet → Subnet → Ordering
subnet_cmp a b = ordering_then (nat_cmp a.source b.source) (ordering_then (nat_cmp a.scope b.scope) (addr_cmp a.addr b.addr))
