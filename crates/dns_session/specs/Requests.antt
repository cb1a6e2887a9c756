-- The requests that messages make.
use Rattle.std.specs.Prelude.{ℕ, List, Some, None, false}
use Rattle.dns_name.specs.declared.address.SocketAddr.{SocketAddr}
use Rattle.dns_framing.specs.Config.{Dgram}
use Rattle.dns_framing.specs.Req.{Req}
use Rattle.dns_framing.specs.InvokerStatus.TheVariants.{Normal}
use Rattle.dns_framing.specs.TransportSpecificContext.TheVariants.{Udp, NonUdp}
use Rattle.dns_session.specs.Slate.{SlateRequest}

-- the octets of a header (RFC 1035, section 4.1.1): what is shorter is no message
abbrev pub header_size : ℕ
header_size = 12

-- a client makes no more requests
abbrev pub most_requests : ℕ
most_requests = 18446744073709551615

-- a datagram from an address at a moment and seconds; the hint is the configuration's largest response
abbrev pub request_of_datagram : Dgram → SocketAddr → ℕ → ℕ → List ℕ → Req (Unit {0})
request_of_datagram dgram addr at secs o = record {
  octets = o;
  client_addr = addr;
  received_at = at;
  received_secs = secs;
  transport = Udp dgram.max_response_size;
  reserved = 0;
  metadata = tt;
}

-- a frame of a connection, with the time that the connection may be idle as it is now
abbrev pub request_of_frame : ℕ → SocketAddr → ℕ → ℕ → List ℕ → Req (Unit {0})
request_of_frame idle_timeout addr at secs o = record {
  octets = o;
  client_addr = addr;
  received_at = at;
  received_secs = secs;
  transport = NonUdp (Some idle_timeout);
  reserved = 0;
  metadata = tt;
}

-- a request that was not polled yet
abbrev pub unpolled : Req (Unit {0}) → SlateRequest
unpolled r = record { request = r; polls = 0; held = None; status = Normal; done = false }
