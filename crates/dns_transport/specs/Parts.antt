-- Servers as clauses see them.
use Rattle.std.specs.Prelude.{◌≡◌, Option, Some, None}
use Rattle.atomic_table.specs.Seated.{TableId}
use Rattle.dns_service.specs.Config.{default_dgram, default_stream}
use Rattle.dns_admission.specs.Machine.{new_state}
use Rattle.dns_book.specs.Seats.{Seated, new_known}
use Rattle.dns_book.specs.declared.history.Known.{Known}

-- the seat is there, and is one of the book
abbrev pub IsSeatAt : TableId → Option Seated → Type 0
IsSeatAt book (Some seat) = seat.book ≡ book
IsSeatAt book None = ⊥

-- what a seat knows that is there
abbrev pub known_of : Option Seated → Known
known_of (Some seat) = seat.known
known_of None = new_known (new_state default_dgram default_stream)

-- a server of datagrams: its socket, service and clock, and its seat at its book
pub record DgramParts (D W C : Type 0) : Type 0 where
  pub sock : D
  pub service : W
  pub clock : C
  pub book : TableId
  pub known : Known

-- a server of connections: its accept object, service, clock and spawner, and its seat at its book
pub record StreamParts (A W C P : Type 0) : Type 0 where
  pub accept : A
  pub service : W
  pub clock : C
  pub spawner : P
  pub book : TableId
  pub known : Known
