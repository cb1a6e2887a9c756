-- What forms in memory give in its order, octets or datagrams.
use Rattle.std.specs.Prelude.{◌≡◌, ℕ, ◌≤◌, List, [], ◌∷◌, ◌++◌, length, take, min, Option, Some, None}
use Rattle.dns_name.specs.declared.address.SocketAddr.{SocketAddr}
use Rattle.dns_io.specs.declared.sock.Packet.{Packet}

-- what came so far, and what is left
pub record Passing (A : Type 0) : Type 0 where
  pub came : List A
  pub left : List A

-- n octets came, of which the buffer then holds the front, as many as it has room for and at most that many
pub record PartCame (n most : ℕ) (buf : List ℕ) (a b : Passing ℕ) : Type 0 where
  pub some : 1 ≤ length a.left
  pub count : n ≡ min (min (length a.left) (length buf)) most
  pub came : b.came ≡ a.came ++ take n buf
  pub left : a.left ≡ take n buf ++ b.left

-- a read of octets, with what is given before it and after it
abbrev pub Passes : Option ℕ → ℕ → List ℕ → Passing ℕ → Passing ℕ → Type 0
Passes (Some n) most buf a b = PartCame n most buf a b
Passes None most buf a b = (a.left ≡ []) × (b ≡ a)

-- one datagram came, and buf holds its front, as much as there is room for
pub record PacketCame (n : ℕ) (from : SocketAddr) (buf : List ℕ) (a b : Passing Packet) : Type 0 where
  pub octets : List ℕ
  pub came : b.came ≡ a.came ++ (record { octets = octets; addr = from }) ∷ []
  pub left : a.left ≡ (record { octets = octets; addr = from }) ∷ b.left
  pub count : n ≡ min (length octets) (length buf)
  pub front : take n buf ≡ take n octets

-- a receive of a datagram, with what is given before it and after it
abbrev pub PacketPasses : Option (ℕ × SocketAddr) → List ℕ → Passing Packet → Passing Packet → Type 0
PacketPasses (Some (n, from)) buf a b = PacketCame n from buf a b
PacketPasses None buf a b = (a.left ≡ []) × (b ≡ a)
