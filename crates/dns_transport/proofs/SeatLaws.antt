-- A seat that stands in its place.
use Rattle.std.proofs.Common.{Some, None, refl}
use Rattle.std.specs.Prelude.{Option, IsSome}
use Rattle.atomic_table.specs.Seated.{TableId}
use Rattle.dns_book.specs.Seats.{Seated}
use Rattle.dns_transport.specs.Parts.{IsSeatAt}

pub is_there : (book : TableId) (place : Option Seated) → IsSeatAt book place → IsSome place
is_there book (Some seat) at = refl
is_there book None at = absurd at
