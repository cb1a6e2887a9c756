-- Addresses with a port.
use Rattle.std.specs.Prelude.{Bool, ◌&&◌, nat_eq, replicate}
use Rattle.std.specs.Str.{bytes_eq}
use Rattle.dns_name.specs.Addresses.{address_octets}
use Rattle.dns_name.specs.declared.address.IpAddr.{IpAddr}
use Rattle.dns_name.specs.declared.address.IpAddr.TheVariants.{V4, V6}
use Rattle.dns_name.specs.declared.address.SocketAddr.{SocketAddr}

-- the octets of both are the same, so both are of IPv4 or both of IPv6
abbrev pub same_ip : IpAddr → IpAddr → Bool
same_ip a b = bytes_eq (address_octets a) (address_octets b)

abbrev pub same_socket_addr : SocketAddr → SocketAddr → Bool
same_socket_addr a b = nat_eq a.port b.port && same_ip a.ip b.ip

-- the unspecified address (RFC 1122, section 3.2.1.3; RFC 4291, section 2.5.2)
abbrev pub unspecified_ip : IpAddr → IpAddr
unspecified_ip (V4 octets) = V4 (replicate 4 0)
unspecified_ip (V6 octets) = V6 (replicate 16 0)
