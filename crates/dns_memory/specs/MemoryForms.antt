-- Links, sockets, accept objects and clocks in memory, as contracts see them.
use Rattle.std.specs.Prelude.{◌≡◌, ℕ, ◌+◌, ◌-◌, ◌^◌, ◌<◌, List, [], ◌∷◌, ◌++◌, min, length, take, get_or, replicate}
use Rattle.dns_name.specs.declared.address.SocketAddr.{SocketAddr}
use Rattle.dns_memory.specs.Memory.{next, moved_at_once}
use Rattle.dns_io.specs.Traffic.{Traffic}
use Rattle.dns_io.specs.SockTraffic.{SockTraffic}
use Rattle.dns_io.specs.AcceptTraffic.{AcceptTraffic}
use Rattle.dns_memory.specs.ListedCalls.{TakesFate}
use Rattle.dns_memory.specs.declared.listed_calls.ListedCalls.{ListedCalls}
use Rattle.dns_memory.specs.declared.listed_calls.CallFate.TheVariants.{CarriedOut, Again as AgainFate, Failed as FailedFate}
use Rattle.dns_io.specs.declared.link.LinkRead.{LinkRead}
use Rattle.dns_io.specs.declared.link.LinkRead.TheVariants.{Got, Again as ReadAgain, End, Failed as ReadFailed}
use Rattle.dns_io.specs.declared.link.LinkWrite.{LinkWrite}
use Rattle.dns_io.specs.declared.link.LinkWrite.TheVariants.{Took, Again as WriteAgain, Failed as WriteFailed}
use Rattle.dns_io.specs.declared.accept.AcceptAnswer.{AcceptAnswer}
use Rattle.dns_io.specs.declared.accept.AcceptAnswer.TheVariants.{Accepted, Again as AcceptAgain, Failed as AcceptFailed}
use Rattle.dns_io.specs.declared.sock.Packet.{Packet}
use Rattle.dns_io.specs.declared.sock.DgramRecv.{DgramRecv}
use Rattle.dns_io.specs.declared.sock.DgramRecv.TheVariants.{Got as RecvGot, Again as RecvAgain, Failed as RecvFailed}
use Rattle.dns_io.specs.declared.sock.DgramSend.{DgramSend}
use Rattle.dns_io.specs.declared.sock.DgramSend.TheVariants.{Took as SendTook, Again as SendAgain, Failed as SendFailed}

-- that a counter still counts
abbrev pub StillCounts : ℕ → Type 0
StillCounts n = n < 2 ^ 64 - 1

-- a link in memory
pub record LinkState : Type 0 where
  pub left : List ℕ  -- the octets that are still to be read
  pub came : List ℕ  -- the octets read
  pub went : List ℕ  -- the octets written
  pub most : ℕ  -- the most octets of one call
  pub ends : ℕ  -- the reads that answered End
  pub reads : ListedCalls
  pub writes : ListedCalls

-- what it tells
abbrev pub traffic_of : LinkState → Traffic
traffic_of c = record { came = c.came; went = c.went; ends = c.ends; empty_reads = c.reads.agains; full_writes = c.writes.agains }

-- that it tells: no counter stands at its end
abbrev pub LinkTells : LinkState → Type 0
LinkTells c = StillCounts c.ends × StillCounts c.reads.agains × StillCounts c.writes.agains

-- one read into so much room, with the link a before it and b after it
abbrev pub LinkReads : LinkRead → ℕ → LinkState → LinkState → Type 0
LinkReads (Got n) room a b = TakesFate CarriedOut a.reads b.reads × (n ≡ moved_at_once a.most (min (length a.left) room))
LinkReads ReadAgain room a b = TakesFate AgainFate a.reads b.reads
LinkReads End room a b = TakesFate CarriedOut a.reads b.reads × (a.left ≡ [])
LinkReads ReadFailed room a b = TakesFate FailedFate a.reads b.reads

-- one write of a piece of that many octets; one for which there is no memory fails too
abbrev pub LinkWrites : LinkWrite → ℕ → LinkState → LinkState → Type 0
LinkWrites (Took n) size a b = TakesFate CarriedOut a.writes b.writes × (n ≡ moved_at_once a.most size)
LinkWrites WriteAgain size a b = TakesFate AgainFate a.writes b.writes
LinkWrites WriteFailed size a b = b.writes ≡ record a.writes { made = next a.writes.made; faults = next a.writes.faults }

-- a socket in memory
pub record SockState : Type 0 where
  pub left : List Packet  -- the datagrams that are still to be received
  pub received : List Packet
  pub sent : List Packet
  pub receives : ListedCalls
  pub sends : ListedCalls

-- what it tells
abbrev pub sock_traffic_of : SockState → SockTraffic
sock_traffic_of t = record { received = t.received; sent = t.sent; empty_receives = t.receives.agains; full_sends = t.sends.agains }

-- that it tells: no counter stands at its end
abbrev pub SockTells : SockState → Type 0
SockTells t = StillCounts t.receives.agains × StillCounts t.sends.agains

-- one receive, with the socket a before it and b after it; Again comes also if no datagram is left
abbrev pub SockReceives : DgramRecv → SockState → SockState → Type 0
SockReceives (RecvGot n from) a b = TakesFate CarriedOut a.receives b.receives × (length a.left ≡ length b.left + 1)
SockReceives RecvAgain a b = (b.receives ≡ record a.receives { made = next a.receives.made; agains = next a.receives.agains })
    × (b.left ≡ a.left)
SockReceives RecvFailed a b = TakesFate FailedFate a.receives b.receives × (b.left ≡ a.left)

-- one send; one for which there is no memory fails too
abbrev pub SockSends : DgramSend → SockState → SockState → Type 0
SockSends (SendTook n) a b = TakesFate CarriedOut a.sends b.sends
SockSends SendAgain a b = TakesFate AgainFate a.sends b.sends
SockSends SendFailed a b = b.sends ≡ record a.sends { made = next a.sends.made; faults = next a.sends.faults }

-- an accept object in memory, of links of type L
pub record AcceptState (L : Type 0) : Type 0 where
  pub left : List (L × SocketAddr)  -- the connections that are still to come
  pub callers : List SocketAddr  -- the addresses of those that came
  pub calls : ListedCalls

-- what it tells
abbrev pub accept_traffic_of : {L : Type 0} → AcceptState L → AcceptTraffic
accept_traffic_of l = record { callers = l.callers; empty_accepts = l.calls.agains }

-- one accept, with the object a before it and b after it; Again comes also if no connection is left, and one for whose address
-- there is no memory fails too
abbrev pub AcceptsNext : {L : Type 0} → AcceptAnswer L → AcceptState L → AcceptState L → Type 0
AcceptsNext (Accepted link from) a b = TakesFate CarriedOut a.calls b.calls × (a.left ≡ (link, from) ∷ b.left)
AcceptsNext AcceptAgain a b = (b.calls ≡ record a.calls { made = next a.calls.made; agains = next a.calls.agains }) × (a.left ≡ b.left)
AcceptsNext AcceptFailed a b = b.calls ≡ record a.calls { made = next a.calls.made; faults = next a.calls.faults }

-- a clock in memory
pub record ClockState : Type 0 where
  pub listed : List (ℕ × ℕ)  -- the readings that it gives first
  pub given : ℕ  -- the number of readings given

-- the last of some readings, or the beginning of time if there is none
abbrev pub last_reading : List (ℕ × ℕ) → ℕ × ℕ
last_reading l = get_or l (length l - 1) (0, 0)

-- its readings so far: those listed, and then the last of them again and again
abbrev pub readings_of : ClockState → List (ℕ × ℕ)
readings_of d = take d.given d.listed ++ replicate (d.given - length d.listed) (last_reading d.listed)
