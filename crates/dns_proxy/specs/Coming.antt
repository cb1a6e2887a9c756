-- How a client's message comes, in a datagram or over a connection (RFC 1035, section 4.2): what is read of it, the request that it makes,
-- and what its client is sent.
use Rattle.std.specs.Prelude.{ℕ, List, [], ◌∷◌, Option, Some, None}
use Rattle.dns_name.specs.declared.address.SocketAddr.{SocketAddr}
use Rattle.dns_base.specs.Wire.{wire}
use Rattle.dns_events.specs.Config.{Dgram}
use Rattle.dns_events.specs.declared.event.Output.{Output}
use Rattle.dns_events.specs.declared.event.Output.TheVariants.{Closed, Frame}
use Rattle.dns_events.specs.declared.event.Why.TheVariants as Why
use Rattle.dns_service.specs.Cut.{sized}
use Rattle.dns_service.specs.ErrorReply.{error_reply}
use Rattle.dns_service.specs.Req.{Req}
use Rattle.dns_service.specs.Transport.{limit}
use Rattle.dns_service.specs.declared.message.TransportSpecificContext.{TransportSpecificContext}
use Rattle.dns_service.specs.declared.message.TransportSpecificContext.TheVariants.{Udp, NonUdp}
use Rattle.dns_session.specs.Datagrams.{cut_datagram, datagrams_to}
use Rattle.dns_session.specs.Frames.{framed}
use Rattle.dns_proxy.specs.declared.query_event.ClientMessage.{ClientMessage}
use Rattle.dns_proxy.specs.declared.query_event.ClientTransport.{ClientTransport}
use Rattle.dns_proxy.specs.declared.query_event.ClientTransport.TheVariants.{Datagram, Connection}

-- of a datagram the first octets are read, and of a message over a connection all
abbrev pub octets_read : ClientTransport → List ℕ → List ℕ
octets_read Datagram o = cut_datagram o
octets_read (Connection idle_timeout) o = o

abbrev pub message_of : ClientMessage → List ℕ
message_of c = octets_read c.transport c.octets

-- the request that octets make that came like this from an address, at a moment and seconds: the hint of a datagram is the
-- configuration's largest response, and over a connection it has the time that this may be idle
abbrev pub transport_by : ClientTransport → Dgram → TransportSpecificContext
transport_by Datagram dgram = Udp dgram.max_response_size
transport_by (Connection idle_timeout) dgram = NonUdp (Some idle_timeout)

abbrev pub request_by : ClientTransport → Dgram → SocketAddr → ℕ → ℕ → List ℕ → Req (Unit {0})
request_by t dgram addr at secs o = record {
  octets = o;
  client_addr = addr;
  received_at = at;
  received_secs = secs;
  transport = transport_by t dgram;
  reserved = 0;
  metadata = tt;
}

abbrev pub request_of : Dgram → ClientMessage → Req (Unit {0})
request_of dgram c = request_by c.transport dgram c.addr c.at c.secs (message_of c)

-- octets that a client is sent, if it is sent some: over a connection they stand after their length
abbrev pub outputs_by : ClientTransport → ℕ → Option (List ℕ) → List Output
outputs_by Datagram client o = datagrams_to client o
outputs_by (Connection idle_timeout) client None = []
outputs_by (Connection idle_timeout) client (Some o) = Frame client (framed o) ∷ []

abbrev pub outputs_to : ClientMessage → Option (List ℕ) → List Output
outputs_to c o = outputs_by c.transport c.client o

-- what is shorter than a header is answered by nothing, and closes a connection
abbrev pub closed_by : ClientTransport → ℕ → List Output
closed_by Datagram client = []
closed_by (Connection idle_timeout) client = Closed client Why.Short ∷ []

-- the octets that the sender of a response is sent: FORMERR
abbrev pub refusal_limit : ClientTransport → Dgram → Option ℕ
refusal_limit Datagram dgram = Some (limit dgram.max_response_size)
refusal_limit (Connection idle_timeout) dgram = None

abbrev pub refused_by : ClientTransport → Dgram → List ℕ → List ℕ
refused_by t dgram o = wire (sized (refusal_limit t dgram) (error_reply o 1))
