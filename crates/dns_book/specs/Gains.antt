-- Several calls of one seat.
use Rattle.std.specs.Prelude.{◌≡◌, true, false, List, [], ◌∷◌, ◌++◌}
use Rattle.dns_book.specs.declared.history.Entry.{Entry}
use Rattle.dns_book.specs.declared.history.Share.{Share}
use Rattle.dns_book.specs.declared.history.Known.{Known}
use Rattle.dns_book.specs.History.{SeatName, IsLegal, Begins, calls_by, with_entry}
use Rattle.dns_book.specs.Seats.{IsSound}

-- the map with these entries, each under the name of the seat that made it
abbrev pub with_calls : List Entry → List Share → List Share
with_calls [] m = m
with_calls (e ∷ es) m = with_calls es (with_entry e.by e m)

-- These calls and no others were made, each under the name that the seat had then.
pub record Gained (old : Known) (calls : List Entry) (new : Known) : Type 0 where
  pub same_book : new.opening ≡ old.opening
  pub seen : Begins old.seen new.seen
  pub mine : new.mine ≡ with_calls calls old.mine

-- the names of the two halves of a seat
abbrev pub first_name : Known → SeatName
first_name k = k.name ++ false ∷ []

abbrev pub second_name : Known → SeatName
second_name k = k.name ++ true ∷ []

-- Both halves of a seat made calls and were joined. There is one legal history that goes on from what the seat had seen.
-- In it stand the calls of each half with their replies, each once and in their order, and no others under these two names.
pub record BothMade (old : Known) (left right : List Entry) (new : Known) : Type 0 where
  pub same_book : new.opening ≡ old.opening
  pub name : new.name ≡ first_name old
  pub legal : IsLegal new.opening new.seen
  pub seen : Begins old.seen new.seen
  pub first : calls_by (first_name old) new.seen ≡ left
  pub second : calls_by (second_name old) new.seen ≡ right
  pub mine : new.mine ≡ with_calls left old.mine ++ with_calls right []
  pub sound : IsSound new
