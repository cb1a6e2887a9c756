-- How datagrams move through a socket. In each, a is what the socket tells before a call, and b after it.
use Rattle.std.specs.Prelude.{◌≡◌, ℕ, ◌+◌, ◌≤◌, List, [], ◌∷◌, ◌++◌, length, take, min}
use Rattle.dns_name.specs.declared.address.SocketAddr.{SocketAddr}
use Rattle.dns_io.specs.Causes.{Rose}
use Rattle.dns_io.specs.declared.sock.Packet.{Packet}
use Rattle.dns_io.specs.declared.sock.DgramRecv.{DgramRecv}
use Rattle.dns_io.specs.declared.sock.DgramRecv.TheVariants.{Got, Again, Failed}
use Rattle.dns_io.specs.declared.sock.DgramSend.{DgramSend}
use Rattle.dns_io.specs.declared.sock.DgramSend.TheVariants.{Took, Again as SendAgain, Failed as SendFailed}

-- what a socket tells of its calls so far
pub record SockTraffic : Type 0 where
  pub received : List Packet  -- the datagrams received, whole
  pub sent : List Packet  -- the datagrams sent
  pub empty_receives : ℕ  -- the receives that answered Again
  pub full_sends : ℕ  -- the sends that answered Again

-- one datagram more was received, and buf holds its front, as much as there is room for
pub record Received (n : ℕ) (from : SocketAddr) (buf : List ℕ) (a b : SockTraffic) : Type 0 where
  pub octets : List ℕ
  pub more : b ≡ record a { received = a.received ++ (record { octets = octets; addr = from }) ∷ [] }
  pub count : n ≡ min (length octets) (length buf)
  pub front : take n buf ≡ take n octets

-- a receive into a buffer that then holds buf
abbrev pub RecvMoves : DgramRecv → List ℕ → SockTraffic → SockTraffic → Type 0
RecvMoves (Got n from) buf a b = Received n from buf a b
RecvMoves Again buf a b = b ≡ record a { empty_receives = a.empty_receives + 1 }
RecvMoves Failed buf a b = b ≡ a

-- a receive fits its buffer
abbrev pub RecvBound : DgramRecv → List ℕ → Type 0
RecvBound (Got n from) buf = n ≤ length buf
RecvBound Again buf = Unit {0}
RecvBound Failed buf = Unit {0}

-- the count of failed receives rises with a failed one, and with no other
abbrev pub RecvCause : DgramRecv → ℕ → ℕ → Type 0
RecvCause (Got n from) a b = b ≡ a
RecvCause Again a b = b ≡ a
RecvCause Failed a b = Rose a b

-- a send of octets to an address
abbrev pub SendMoves : DgramSend → List ℕ → SocketAddr → SockTraffic → SockTraffic → Type 0
SendMoves (Took n) octets to a b = b ≡ record a { sent = a.sent ++ (record { octets = octets; addr = to }) ∷ [] }
SendMoves SendAgain octets to a b = b ≡ record a { full_sends = a.full_sends + 1 }
SendMoves SendFailed octets to a b = b ≡ a

-- a datagram is sent whole
abbrev pub SendBound : DgramSend → List ℕ → Type 0
SendBound (Took n) octets = n ≡ length octets
SendBound SendAgain octets = Unit {0}
SendBound SendFailed octets = Unit {0}

-- the count of failed sends rises with a failed one, and with no other
abbrev pub SendCause : DgramSend → ℕ → ℕ → Type 0
SendCause (Took n) a b = b ≡ a
SendCause SendAgain a b = b ≡ a
SendCause SendFailed a b = Rose a b
