-- A request as a plain record: the octets of its message, where and when it came from, its transport, the octets that are
-- reserved in its response, and its metadata.
use Rattle.std.specs.Prelude.{ℕ, List, Option}
use Rattle.dns_name.specs.declared.address.SocketAddr.{SocketAddr}
use Rattle.dns_service.specs.Transport.{hint_of}
use Rattle.dns_service.specs.declared.message.TransportSpecificContext.{TransportSpecificContext}

pub record Req (Meta : Type 0) : Type 0 where
  pub octets : List ℕ
  pub client_addr : SocketAddr
  pub received_at : ℕ
  pub received_secs : ℕ
  pub transport : TransportSpecificContext
  pub reserved : ℕ
  pub metadata : Meta

-- a request with other metadata
abbrev pub with_metadata : {A B : Type 0} → Req A → B → Req B
with_metadata r meta = record {
  octets = r.octets;
  client_addr = r.client_addr;
  received_at = r.received_at;
  received_secs = r.received_secs;
  transport = r.transport;
  reserved = r.reserved;
  metadata = meta;
}

-- a request that came otherwise
abbrev pub with_transport : {A : Type 0} → Req A → TransportSpecificContext → Req A
with_transport r transport = record r { transport = transport }

-- the hint of a request, as it came
abbrev pub hint_at_entry : {Meta : Type 0} → Req Meta → Option ℕ
hint_at_entry r = hint_of r.transport
