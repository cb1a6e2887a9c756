-- The transport of a request: a datagram, with or without a hint of the largest response in octets, or a stream.
use Rattle.std.specs.Prelude.{ℕ, max, Bool, true, false, Option, Some, None}
use Rattle.dns_service.specs.declared.message.TransportSpecificContext.{TransportSpecificContext}
use Rattle.dns_service.specs.declared.message.TransportSpecificContext.TheVariants.{Udp, NonUdp}

-- whether a request came over a stream, and not in a datagram
abbrev pub is_stream : TransportSpecificContext → Bool
is_stream (Udp hint) = false
is_stream (NonUdp timeout) = true

-- the hint of a request's transport: a stream has none
abbrev pub hint_of : TransportSpecificContext → Option ℕ
hint_of (Udp hint) = hint
hint_of (NonUdp timeout) = None

-- a transport with another hint: a stream has none
abbrev pub hinted : Option ℕ → TransportSpecificContext → TransportSpecificContext
hinted hint (Udp before) = Udp hint
hinted hint (NonUdp timeout) = NonUdp timeout

-- how many octets a reply over UDP may take, by the request's hint: at least 512 (RFC 1035, section 4.2.1)
abbrev pub limit : Option ℕ → ℕ
limit None = 512
limit (Some hint) = max 512 hint

-- a datagram has a limit, and a stream has none
abbrev pub limit_over : TransportSpecificContext → ℕ → Option ℕ
limit_over (Udp hint) n = Some n
limit_over (NonUdp timeout) n = None
