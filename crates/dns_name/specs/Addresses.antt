-- Addresses as octets, in network order.
use Rattle.std.specs.Prelude.{ℕ, List}
use Rattle.dns_name.specs.declared.address.IpAddr.{IpAddr}
use Rattle.dns_name.specs.declared.address.IpAddr.TheVariants.{V4, V6}

-- an address as 4 or 16 octets
abbrev pub address_octets : IpAddr → List ℕ
address_octets (V4 a) = a
address_octets (V6 a) = a
