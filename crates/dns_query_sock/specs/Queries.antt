-- Which datagrams are passed on: those without QR, so that no response is answered (RFC 1035, section 4.1.1).
use Rattle.std.specs.Prelude.{◌+◌, Bool, List, ℕ, not, filter, count_by, take, if◌then◌else◌}
use Rattle.dns_message.specs.Header.{header_of}
use Rattle.dns_io.specs.SockTraffic.{SockTraffic}
use Rattle.dns_io.specs.declared.sock.Packet.{Packet}
use Rattle.dns_io.specs.declared.sock.DgramRecv.{DgramRecv}
use Rattle.dns_io.specs.declared.sock.DgramRecv.TheVariants.{Got, Again, Failed}

-- whether octets that begin with a header have QR set
abbrev pub is_response : List ℕ → Bool
is_response octets = (header_of octets).qr

abbrev pub carries_response : Packet → Bool
carries_response p = is_response p.octets

abbrev pub carries_query : Packet → Bool
carries_query p = not (is_response p.octets)

-- what a socket tells, without the responses: to receive one is to find that no datagram is there yet
abbrev pub without_responses : SockTraffic → SockTraffic
without_responses t = record t {
  received = filter carries_query t.received;
  empty_receives = t.empty_receives + count_by carries_response t.received;
}

-- the answer of a receive, of which this stands in the buffer
abbrev pub passed_on : DgramRecv → List ℕ → DgramRecv
passed_on (Got n from) buf = if is_response (take n buf) then Again else Got n from
passed_on Again buf = Again
passed_on Failed buf = Failed
