-- What a witness saw is what the object beneath did since. In each, a is what that observed at first, b is what it tells now, and t is what
-- was seen.
use Rattle.std.specs.Prelude.{◌≡◌, ℕ, ◌+◌, List, [], ◌∷◌, ◌++◌, take}
use Rattle.dns_io.specs.Traffic.{Traffic}
use Rattle.dns_io.specs.SockTraffic.{SockTraffic}
use Rattle.dns_io.specs.AcceptTraffic.{AcceptTraffic}
use Rattle.dns_io.specs.declared.sock.Packet.{Packet}

-- a link
pub record TrafficSince (a b t : Traffic) : Type 0 where
  pub came : b.came ≡ a.came ++ t.came
  pub went : b.went ≡ a.went ++ t.went
  pub ends : b.ends ≡ a.ends + t.ends
  pub empty_reads : b.empty_reads ≡ a.empty_reads + t.empty_reads
  pub full_writes : b.full_writes ≡ a.full_writes + t.full_writes

-- a datagram as it was seen, and whole: it may have been cut by the buffer
pub record IsFrontOf (seen whole : Packet) : Type 0 where
  pub addr : seen.addr ≡ whole.addr
  pub count : ℕ
  pub octets : seen.octets ≡ take count whole.octets

abbrev pub AreFronts : List Packet → List Packet → Type 0
AreFronts [] [] = Unit {0}
AreFronts (s ∷ ss) (w ∷ ws) = IsFrontOf s w × AreFronts ss ws
AreFronts [] (w ∷ ws) = ⊥
AreFronts (s ∷ ss) [] = ⊥

-- a socket
pub record SockSince (a b t : SockTraffic) : Type 0 where
  pub whole : List Packet
  pub received : b.received ≡ a.received ++ whole
  pub fronts : AreFronts t.received whole
  pub sent : b.sent ≡ a.sent ++ t.sent
  pub empty_receives : b.empty_receives ≡ a.empty_receives + t.empty_receives
  pub full_sends : b.full_sends ≡ a.full_sends + t.full_sends

-- a clock
abbrev pub ReadingsSince : List (ℕ × ℕ) → List (ℕ × ℕ) → List (ℕ × ℕ) → Type 0
ReadingsSince a b t = b ≡ a ++ t

-- an accept object
pub record AcceptSince (a b t : AcceptTraffic) : Type 0 where
  pub callers : b.callers ≡ a.callers ++ t.callers
  pub empty_accepts : b.empty_accepts ≡ a.empty_accepts + t.empty_accepts
