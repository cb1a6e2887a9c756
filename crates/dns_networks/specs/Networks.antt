-- Networks: an address and the length of its prefix in bits (RFC 4632, section 3.1; RFC 4291, section 2.3).
use Rattle.std.specs.Prelude.{ℕ, Bool, List}
use Rattle.std.specs.List.{list_any}
use Rattle.std.specs.Str.{bytes_eq}
use Rattle.dns_name.specs.Addresses.{address_octets}
use Rattle.dns_name.specs.declared.address.IpAddr.{IpAddr}
use Rattle.dns_name.specs.declared.address.IpAddr.TheVariants.{V4, V6}
use Rattle.dns_kinds.specs.Subnet.{within_address}
use Rattle.dns_networks.specs.declared.network.Network.{Network}

-- an address without its bits past a prefix
abbrev pub first_bits : ℕ → IpAddr → IpAddr
first_bits bits a = (within_address bits 0 a).addr

-- the network of an address, by one prefix length for addresses of 4 octets and one for those of 16
abbrev pub network_of : ℕ → ℕ → IpAddr → IpAddr
network_of short long (V4 octets) = first_bits short (V4 octets)
network_of short long (V6 octets) = first_bits long (V6 octets)

-- the octets of an address without its bits past a prefix
abbrev pub prefix_octets : ℕ → IpAddr → List ℕ
prefix_octets bits a = address_octets (first_bits bits a)

-- whether an address is in a network: its prefix is that of the network's address
abbrev pub is_in_network : IpAddr → Network → Bool
is_in_network a n = bytes_eq (prefix_octets n.bits a) (prefix_octets n.bits n.address)

abbrev pub is_in_any : List Network → IpAddr → Bool
is_in_any ns a = list_any (is_in_network a) ns
