-- What the calls of a witness said.
use Rattle.std.specs.Prelude.{ℕ, ◌+◌, List, [], ◌∷◌, ◌++◌, take}
use Rattle.dns_io.specs.Traffic.{Traffic}
use Rattle.dns_io.specs.SockTraffic.{SockTraffic}
use Rattle.dns_io.specs.AcceptTraffic.{AcceptTraffic}
use Rattle.dns_io.specs.declared.sock.DgramRecv.{DgramRecv}
use Rattle.dns_io.specs.declared.sock.DgramRecv.TheVariants.{Got, Again, Failed}
use Rattle.dns_witness.specs.declared.traffic.Move.{Move}
use Rattle.dns_witness.specs.declared.traffic.Move.TheVariants.{Came, Went, Ended, Empty, Full}
use Rattle.dns_witness.specs.declared.sock_calls.SockCall.{SockCall}
use Rattle.dns_witness.specs.declared.sock_calls.SockCall.TheVariants.{Received, Empty as NoDatagram, Sent, Full as NoRoom}
use Rattle.dns_witness.specs.declared.arrivals.AcceptCall.{AcceptCall}
use Rattle.dns_witness.specs.declared.arrivals.AcceptCall.TheVariants.{Accepted, Empty as NoCaller}

-- of a link
abbrev pub still : Traffic
still = record { came = []; went = []; ends = 0; empty_reads = 0; full_writes = 0 }

abbrev pub moved : Move → List ℕ → Traffic → Traffic
moved Came o t = record t { came = t.came ++ o }
moved Went o t = record t { went = t.went ++ o }
moved Ended o t = record t { ends = t.ends + 1 }
moved Empty o t = record t { empty_reads = t.empty_reads + 1 }
moved Full o t = record t { full_writes = t.full_writes + 1 }

-- of a socket
abbrev pub no_packets : SockTraffic
no_packets = record { received = []; sent = []; empty_receives = 0; full_sends = 0 }

abbrev pub posted : SockCall → List ℕ → SockTraffic → SockTraffic
posted (Received from) o m = record m { received = m.received ++ (record { octets = o; addr = from }) ∷ [] }
posted NoDatagram o m = record m { empty_receives = m.empty_receives + 1 }
posted (Sent to) o m = record m { sent = m.sent ++ (record { octets = o; addr = to }) ∷ [] }
posted NoRoom o m = record m { full_sends = m.full_sends + 1 }

-- a receive is remembered as its call gave it: a datagram that was cut by what the buffer, which then holds buf, had room for
abbrev pub received_as : DgramRecv → List ℕ → SockTraffic → SockTraffic
received_as (Got n from) buf m = posted (Received from) (take n buf) m
received_as Again buf m = posted NoDatagram [] m
received_as Failed buf m = m

-- of an accept object
abbrev pub no_accepts : AcceptTraffic
no_accepts = record { callers = []; empty_accepts = 0 }

abbrev pub arrived : AcceptCall → AcceptTraffic → AcceptTraffic
arrived (Accepted from) d = record d { callers = d.callers ++ from ∷ [] }
arrived NoCaller d = record d { empty_accepts = d.empty_accepts + 1 }
