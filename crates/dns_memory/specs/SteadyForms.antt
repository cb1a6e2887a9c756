-- Links, sockets and accept objects in memory of which no call fails, as contracts see them.
use Rattle.std.specs.Prelude.{◌≡◌, ℕ, ◌+◌, List, [], ◌∷◌, Bool, IsTrue, length}
use Rattle.dns_name.specs.declared.address.SocketAddr.{SocketAddr}
use Rattle.dns_memory.specs.Memory.{next}
use Rattle.dns_io.specs.Traffic.{Traffic}
use Rattle.dns_io.specs.SockTraffic.{SockTraffic}
use Rattle.dns_io.specs.AcceptTraffic.{AcceptTraffic}
use Rattle.dns_memory.specs.MemoryForms.{StillCounts}
use Rattle.dns_io.specs.declared.accept.AcceptAnswer.{AcceptAnswer}
use Rattle.dns_io.specs.declared.accept.AcceptAnswer.TheVariants.{Accepted, Again as AcceptAgain, Failed as AcceptFailed}
use Rattle.dns_io.specs.declared.link.LinkRead.{LinkRead}
use Rattle.dns_io.specs.declared.link.LinkRead.TheVariants.{Got, Again, End, Failed}
use Rattle.dns_io.specs.declared.sock.Packet.{Packet}
use Rattle.dns_io.specs.declared.sock.DgramRecv.{DgramRecv}
use Rattle.dns_io.specs.declared.sock.DgramRecv.TheVariants.{Got as RecvGot, Again as RecvAgain, Failed as RecvFailed}

-- a link of which no call fails
pub record SteadyLinkState : Type 0 where
  pub left : List ℕ  -- the octets that are still to be read
  pub came : List ℕ
  pub went : List ℕ
  pub whole : Bool  -- all that was written is kept
  pub ends : ℕ  -- the reads that answered End

-- what it tells
abbrev pub steady_traffic : SteadyLinkState → Traffic
steady_traffic c = record { came = c.came; went = c.went; ends = c.ends; empty_reads = 0; full_writes = 0 }

-- that it tells
abbrev pub SteadyLinkTells : SteadyLinkState → Type 0
SteadyLinkTells c = IsTrue c.whole × StillCounts c.ends

-- one read, with the link a before it and b after it
abbrev pub SteadyLinkReads : LinkRead → SteadyLinkState → SteadyLinkState → Type 0
SteadyLinkReads (Got n) a b = b.ends ≡ a.ends
SteadyLinkReads End a b = (a.left ≡ []) × (b.ends ≡ next a.ends)
SteadyLinkReads Again a b = ⊥
SteadyLinkReads Failed a b = ⊥

-- a socket of which no call fails
pub record SteadySockState : Type 0 where
  pub left : List Packet  -- the datagrams that are still to be received
  pub received : List Packet
  pub sent : List Packet
  pub whole : Bool  -- all that was sent is kept
  pub empty_receives : ℕ  -- the receives that answered Again

-- what it tells
abbrev pub steady_sock_traffic : SteadySockState → SockTraffic
steady_sock_traffic t = record { received = t.received; sent = t.sent; empty_receives = t.empty_receives; full_sends = 0 }

-- that it tells
abbrev pub SteadySockTells : SteadySockState → Type 0
SteadySockTells t = IsTrue t.whole × StillCounts t.empty_receives

-- one receive, with the socket a before it and b after it
abbrev pub SteadySockReceives : DgramRecv → SteadySockState → SteadySockState → Type 0
SteadySockReceives (RecvGot n from) a b = (length a.left ≡ length b.left + 1) × (b.empty_receives ≡ a.empty_receives)
SteadySockReceives RecvAgain a b = (a.left ≡ []) × (b.left ≡ a.left) × (b.empty_receives ≡ next a.empty_receives)
SteadySockReceives RecvFailed a b = ⊥

-- an accept object of which no call fails, of links of type L
pub record SteadyAcceptState (L : Type 0) : Type 0 where
  pub left : List (L × SocketAddr)  -- the connections that are still to come
  pub callers : List SocketAddr
  pub whole : Bool  -- the addresses of all that came are kept
  pub empty_accepts : ℕ  -- the calls that answered Again

-- what it tells
abbrev pub steady_accept_traffic : {L : Type 0} → SteadyAcceptState L → AcceptTraffic
steady_accept_traffic l = record { callers = l.callers; empty_accepts = l.empty_accepts }

-- that it tells
abbrev pub SteadyAcceptTells : {L : Type 0} → SteadyAcceptState L → Type 0
SteadyAcceptTells l = IsTrue l.whole × StillCounts l.empty_accepts

-- one accept, with the object a before it and b after it
abbrev pub SteadyAcceptsNext : {L : Type 0} → AcceptAnswer L → SteadyAcceptState L → SteadyAcceptState L → Type 0
SteadyAcceptsNext (Accepted link from) a b = (a.left ≡ (link, from) ∷ b.left) × (b.empty_accepts ≡ a.empty_accepts)
SteadyAcceptsNext AcceptAgain a b = (length a.left ≡ 0) × (b.whole ≡ a.whole) × (b.empty_accepts ≡ next a.empty_accepts)
SteadyAcceptsNext AcceptFailed a b = ⊥
