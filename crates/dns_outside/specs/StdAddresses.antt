-- Addresses as std has them.
use Rattle.std.specs.Prelude.{◌≡◌, ◌∷◌}
use Rattle.std.specs.Net.Addr.{ipv4_octets, ipv6_octets, ipv6_segments, segments_of, low_octets, IsIpv4Mapped}
use Rattle.std.specs.Net.Socket.{socket_ip, socket_port}
use Rattle.std.specs.declared.net.ip_addr.IpAddr.{IpAddr as StdIpAddr}
use Rattle.std.specs.declared.net.ip_addr.IpAddr.TheVariants.{V4 as StdV4, V6 as StdV6}
use Rattle.std.specs.declared.net.socket_addr.SocketAddr.{SocketAddr as StdSocketAddr}
use Rattle.dns_name.specs.declared.address.IpAddr.{IpAddr}
use Rattle.dns_name.specs.declared.address.IpAddr.TheVariants.{V4, V6}
use Rattle.dns_name.specs.declared.address.SocketAddr.{SocketAddr}

-- std's address is made of these octets
abbrev pub IsMadeOf : StdIpAddr → IpAddr → Type 0
IsMadeOf (StdV4 ip) (V4 octets) = ipv4_octets ip ≡ octets
IsMadeOf (StdV6 ip) (V6 octets) = ipv6_segments ip ≡ segments_of octets
IsMadeOf _ _ = ⊥

-- std's address is of IPv6: this one, or the one that this IPv4 address stands within (RFC 4291, section 2.5.5.2)
abbrev pub IsSeenAs : StdIpAddr → IpAddr → Type 0
IsSeenAs (StdV6 ip) (V4 octets) = ipv6_segments ip ≡ 0 ∷ 0 ∷ 0 ∷ 0 ∷ 0 ∷ 65535 ∷ segments_of octets
IsSeenAs (StdV6 ip) (V6 octets) = ipv6_segments ip ≡ segments_of octets
IsSeenAs _ _ = ⊥

-- std's address is this one, and one of IPv6 that an IPv4 address stands within is the IPv4 address
abbrev pub IsCanonical : StdIpAddr → IpAddr → Type 0
IsCanonical (StdV4 ip) (V4 octets) = ipv4_octets ip ≡ octets
IsCanonical (StdV6 ip) (V4 octets) = IsIpv4Mapped (ipv6_segments ip) × (low_octets ip ≡ octets)
IsCanonical (StdV6 ip) (V6 octets) = ¬ (IsIpv4Mapped (ipv6_segments ip)) × (ipv6_octets ip ≡ octets)
IsCanonical _ _ = ⊥

-- std's socket address is made of this one, with its port
abbrev pub AddrIsMadeOf : StdSocketAddr → SocketAddr → Type 0
AddrIsMadeOf a b = IsMadeOf (socket_ip a) b.ip × (socket_port a ≡ b.port)

abbrev pub AddrIsSeenAs : StdSocketAddr → SocketAddr → Type 0
AddrIsSeenAs a b = IsSeenAs (socket_ip a) b.ip × (socket_port a ≡ b.port)

abbrev pub AddrIsCanonical : StdSocketAddr → SocketAddr → Type 0
AddrIsCanonical a b = IsCanonical (socket_ip a) b.ip × (socket_port a ≡ b.port)
