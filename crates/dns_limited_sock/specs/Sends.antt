-- What goes out below for a reply. In each, a is what the socket below tells before, and b after it.
use Rattle.std.specs.Prelude.{ℕ, ◌≡◌, ◌⊎◌, List, Option, Some, None}
use Rattle.dns_name.specs.declared.address.SocketAddr.{SocketAddr}
use Rattle.dns_io.specs.SockTraffic.{SockTraffic, SendMoves}
use Rattle.dns_io.specs.declared.sock.DgramSend.{DgramSend}
use Rattle.dns_io.specs.declared.sock.DgramSend.TheVariants.{Took, Again, Failed}
use Rattle.dns_rate_limit.specs.declared.rate.Verdict.{Verdict}
use Rattle.dns_rate_limit.specs.declared.rate.Verdict.TheVariants.{Whole, Truncated, Dropped}
use Rattle.dns_limited_sock.specs.Emptied.{IsEmptied}

-- the answer of a send, as if that many octets had been sent
abbrev pub in_place_of : ℕ → DgramSend → DgramSend
in_place_of n (Took m) = Took n
in_place_of n Again = Again
in_place_of n Failed = Failed

-- what may take the place of a reply
abbrev pub MayTakePlace : List ℕ → Option (List ℕ) → Type 0
MayTakePlace reply None = Unit {0}
MayTakePlace reply (Some short) = IsEmptied reply (Some short)

-- what takes the place of a reply is sent, if there is something
abbrev pub ShortMoves : Option (List ℕ) → DgramSend → SocketAddr → SockTraffic → SockTraffic → Type 0
ShortMoves None answer to a b = b ≡ a
ShortMoves (Some short) answer to a b = SendMoves answer short to a b

-- a header with TC and the questions of a reply are sent, or nothing
abbrev pub EmptiedMoves : DgramSend → List ℕ → SocketAddr → SockTraffic → SockTraffic → Type 0
EmptiedMoves answer reply to a b = (b ≡ a) ⊎ ((short : List ℕ) × IsEmptied reply (Some short) × SendMoves answer short to a b)

-- a reply is sent whole, truncated or not at all
abbrev pub MovesBy : Verdict → DgramSend → List ℕ → SocketAddr → SockTraffic → SockTraffic → Type 0
MovesBy Whole answer reply to a b = SendMoves answer reply to a b
MovesBy Truncated answer reply to a b = EmptiedMoves answer reply to a b
MovesBy Dropped answer reply to a b = b ≡ a

abbrev pub MovesAsJudged : DgramSend → List ℕ → SocketAddr → SockTraffic → SockTraffic → Type 0
MovesAsJudged answer reply to a b = (v : Verdict) × MovesBy v answer reply to a b
