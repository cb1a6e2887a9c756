-- The exchange that a datagram makes (RFC 1035, section 4.2.1). A datagram is cut at 1,024 octets. One that is shorter than a header
-- makes no request, though its number is used; nor does a response, which is answered with FORMERR at once.
use Rattle.std.specs.Prelude.{ℕ, List, [], ◌∷◌, length, take, nat_lt, Bool, ◌||◌, if◌then◌else◌, Option, Some, None}
use Rattle.dns_name.specs.declared.address.SocketAddr.{SocketAddr}
use Rattle.dns_base.specs.Header.{header_of}
use Rattle.dns_base.specs.Wire.{wire}
use Rattle.dns_framing.specs.Config.{Dgram}
use Rattle.dns_framing.specs.Cut.{cut}
use Rattle.dns_framing.specs.ErrorReply.{error_reply}
use Rattle.dns_framing.specs.Transport.{limit}
use Rattle.dns_events.specs.declared.event.Output.{Output}
use Rattle.dns_events.specs.declared.event.Output.TheVariants.{Datagram}
use Rattle.dns_session.specs.Slate.{Slate, Effect, Exchange}
use Rattle.dns_session.specs.Requests.{header_size, request_of_datagram, unpolled}

-- of a longer datagram the rest is not read
abbrev pub most_read : ℕ
most_read = 1024

abbrev pub cut_datagram : List ℕ → List ℕ
cut_datagram o = take most_read o

-- octets of which no request is made
abbrev pub asks_nothing : List ℕ → Bool
asks_nothing o = nat_lt (length o) header_size || (header_of o).qr

-- the slate of an exchange, by the datagram as it was cut
abbrev pub exchange : ℕ → SocketAddr → ℕ → ℕ → List ℕ → Slate → Slate
exchange client addr at secs o s = record s {
  client = client;
  addr = addr;
  phase = Exchange;
  requests = (if asks_nothing o then [] else unpolled (request_of_datagram s.conf.dgram addr at secs o) ∷ []);
}

-- octets that a client is sent, if it is sent some
abbrev pub datagrams_to : ℕ → Option (List ℕ) → List Output
datagrams_to client None = []
datagrams_to client (Some o) = Datagram client o ∷ []

-- what is sent to the sender of a response
abbrev pub refused_datagram : ℕ → Dgram → List ℕ → List Output
refused_datagram client dgram o = Datagram client (wire (cut (limit dgram.max_response_size) (error_reply o 1))) ∷ []

-- what is sent at once
abbrev pub at_once : ℕ → Dgram → List ℕ → List Output
at_once client dgram o = if nat_lt (length o) header_size then [] else (if (header_of o).qr then refused_datagram client dgram o else [])

abbrev pub datagram : ℕ → SocketAddr → ℕ → ℕ → List ℕ → Slate → Effect
datagram client addr at secs o s = (exchange client addr at secs (cut_datagram o) s, at_once client s.conf.dgram (cut_datagram o))
