-- Where a message came from, by what C says of it.
use Rattle.std.specs.Prelude.{ℕ, List, [], ◌∷◌, length, nat_eq, nat_le, slice_index, Option, Some, None, Ok, Err, if◌then◌else◌}
use Rattle.dns_name.specs.declared.address.IpAddr.{IpAddr}
use Rattle.dns_name.specs.declared.address.IpAddr.TheVariants.{V4, V6}
use Rattle.dns_name.specs.declared.address.SocketAddr.{SocketAddr}
use Rattle.dns_service.specs.declared.message.TransportSpecificContext.{TransportSpecificContext}
use Rattle.dns_service.specs.declared.message.TransportSpecificContext.TheVariants.{Udp, NonUdp}
use Rattle.dns_service.specs.declared.service.ServiceError.{ServiceError}
use Rattle.dns_service.specs.declared.service.ServiceError.TheVariants.{FormatError, InternalError, NotImplemented, Refused}
use Rattle.dns_layers.specs.declared.notifiable.NotifyError.TheVariants.{NotAuthForZone, Other}
use Rattle.dns_embed.specs.declared.action.Arrival.{Arrival}
use Rattle.dns_embed.specs.declared.verdict.KnownVerdict.{KnownVerdict}
use Rattle.nutscythe_c.specs.declared.origin.Origin.{Origin}

-- the address of family 4 or 6, of its first four octets or of all
abbrev pub ip_of : ℕ → List ℕ → Option IpAddr
ip_of family o =
    if nat_eq family 4 then Some (V4 (slice_index o 0 ∷ slice_index o 1 ∷ slice_index o 2 ∷ slice_index o 3 ∷ []))
    else (if nat_eq family 6 then Some (V6 o) else None)

-- the address of four octets, or of sixteen
abbrev pub ip_with : List ℕ → Option IpAddr
ip_with o = if nat_eq (length o) 4 then Some (V4 o) else (if nat_eq (length o) 16 then Some (V6 o) else None)

-- a datagram without or with a size that a reply may have, or a stream without or with an idle timeout
abbrev pub transport_of : Origin → Option TransportSpecificContext
transport_of o =
    if nat_eq o.over 0 then Some (Udp None)
    else (if nat_eq o.over 1 then (if nat_le o.size 65535 then Some (Udp (Some o.size)) else None)
    else (if nat_eq o.over 2 then Some (NonUdp None)
    else (if nat_eq o.over 3 then Some (NonUdp (Some o.size)) else None)))

abbrev pub addr_by : Origin → Option IpAddr → Option SocketAddr
addr_by o (Some ip) = Some (record { ip = ip; port = o.port })
addr_by o None = None

-- the sender
abbrev pub addr_of : Origin → Option SocketAddr
addr_of o = addr_by o (ip_of o.family o.octets)

abbrev pub arrival_by : Origin → Option SocketAddr → Option TransportSpecificContext → Option Arrival
arrival_by o (Some addr) (Some t) = Some (record { addr = addr; at = o.at; secs = o.secs; transport = t })
arrival_by o (Some addr) None = None
arrival_by o None t = None

-- where a message came from, if each number is in range
abbrev pub arrival_of : Origin → Option Arrival
arrival_of o = arrival_by o (addr_of o) (transport_of o)

-- the verdict of a number
abbrev pub verdict_of : ℕ → Option KnownVerdict
verdict_of n =
    if nat_eq n 0 then Some (record { verdict = Ok tt })
    else (if nat_eq n 1 then Some (record { verdict = Err NotAuthForZone })
    else (if nat_eq n 2 then Some (record { verdict = Err Other }) else None))

-- the error of a service that has this response code
abbrev pub error_of : ℕ → Option ServiceError
error_of n =
    if nat_eq n 1 then Some FormatError
    else (if nat_eq n 2 then Some InternalError
    else (if nat_eq n 4 then Some NotImplemented
    else (if nat_eq n 5 then Some Refused else None)))
