-- What texts of a configuration write: addresses (RFC 4291, section 2.2), networks (RFC 4632, section 3.1), secrets.
use Rattle.std.specs.Prelude.{ℕ, ◌≡◌, ◌==◌, ◌+◌, Bool, List, length, nat_lt, if◌then◌else◌, Option, Some, None, option_map}
use Rattle.std.specs.List.{before_first, after_first, position_or_len}
use Rattle.std.specs.Net.Addr.{ipv4_octets, ipv6_octets}
use Rattle.std.specs.Net.Socket.{socket_ip, socket_port}
use Rattle.std.specs.Net.Grammar.{IsSocketText}
use Rattle.std.specs.declared.net.ip_addr.IpAddr.{IpAddr as StdIpAddr}
use Rattle.std.specs.declared.net.ip_addr.IpAddr.TheVariants.{V4 as StdV4, V6 as StdV6}
use Rattle.std.specs.declared.net.socket_addr.SocketAddr.{SocketAddr as StdSocketAddr}
use Rattle.dns_name.specs.declared.address.IpAddr.{IpAddr}
use Rattle.dns_name.specs.declared.address.IpAddr.TheVariants.{V4, V6}
use Rattle.dns_name.specs.declared.address.SocketAddr.{SocketAddr}
use Rattle.dns_word_values.specs.Values.{long_address, number_below, quad}
use Rattle.dns_config.specs.declared.prefix.Prefix.{Prefix}

-- an address of std
abbrev pub address_of : StdIpAddr → IpAddr
address_of (StdV4 a) = V4 (ipv4_octets a)
address_of (StdV6 a) = V6 (ipv6_octets a)

abbrev pub endpoint_of : StdSocketAddr → SocketAddr
endpoint_of a = record { ip = address_of (socket_ip a); port = socket_port a }

-- the text writes this address and port
pub record WritesEndpoint (text : List ℕ) (a : SocketAddr) : Type 0 where
  pub read : StdSocketAddr
  pub written : IsSocketText text read
  pub same : a ≡ endpoint_of read

-- the address that a text writes: four decimal numbers, else that of IPv6
abbrev pub either_address : Option (List ℕ) → Option (List ℕ) → Option IpAddr
either_address (Some octets) long = Some (V4 octets)
either_address None long = option_map V6 long

abbrev pub address_in : List ℕ → Option IpAddr
address_in text = either_address (quad text) (long_address text)

-- how many bits an address has
abbrev pub address_bits : IpAddr → ℕ
address_bits (V4 octets) = 32
address_bits (V6 octets) = 128

-- an address, and how many of its bits a text says in decimal digits
abbrev pub with_bits : Option IpAddr → List ℕ → Option Prefix
with_bits None digits = None
with_bits (Some a) digits = option_map (λ n. record { address = a; bits = n }) (number_below (address_bits a + 1) digits)

abbrev pub is_slash : ℕ → Bool
is_slash c = c == 47

-- the network that a text writes: an address, a slash and a number
abbrev pub prefix_in : List ℕ → Option Prefix
prefix_in text =
    if nat_lt (position_or_len is_slash text) (length text)
    then with_bits (address_in (before_first is_slash text)) (after_first is_slash text) else None
