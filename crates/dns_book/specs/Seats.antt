-- What a seat knows, and what each call adds to it.
use Rattle.std.specs.Prelude.{◌≡◌, true, false, List, [], ◌∷◌, ◌++◌}
use Rattle.atomic_table.specs.Seated.{TableId}
use Rattle.dns_events.specs.declared.look.Look.{Look as State}
use Rattle.dns_admission.specs.declared.call.Call.{Call}
use Rattle.dns_admission.specs.declared.call.Reply.{Reply}
use Rattle.dns_book.specs.declared.history.Entry.{Entry}
use Rattle.dns_book.specs.declared.history.Known.{Known}
use Rattle.dns_book.specs.History.{SeatName, Under, entry, states_after, IsLegal, Begins, but_last, calls_by, entries_in, Has, IsMap, with_entry}

-- a seat in clauses: the book that it is a seat of, and what it knows
pub record Seated : Type 0 where
  pub book : TableId
  pub known : Known

-- of a book's first seat, which has the empty name
abbrev pub new_known : State → Known
new_known s = record { opening = s; name = []; seen = []; mine = [] }

-- The history that the seat has seen is legal. Under each name whose calls it keeps, that history has these calls and no others.
-- A seat that comes from no split has seen its own calls alone. The names of its halves are new.
pub record IsSound (k : Known) : Type 0 where
  pub legal : IsLegal k.opening k.seen
  pub map : IsMap k.mine
  pub exact : (n : SeatName) → Has n k.mine → calls_by n k.seen ≡ entries_in n k.mine
  pub alone : k.name ≡ [] → k.seen ≡ entries_in [] k.mine
  pub below : (n : SeatName) → Has n k.mine → Under k.name n → ⊥

-- The seat made this call and got this reply. Its history goes on, to this call at the end, and it keeps this call beside the earlier ones.
pub record Called (old : Known) (call : Call) (reply : Reply) (new : Known) : Type 0 where
  pub same_book : new.opening ≡ old.opening
  pub same_name : new.name ≡ old.name
  pub seen : (between : List Entry) × (new.seen ≡ (old.seen ++ between) ++ entry old.name call reply ∷ [])
  pub mine : new.mine ≡ with_entry old.name (entry old.name call reply) old.mine
  pub sound : IsSound new

-- the state that the last call met
abbrev pub state_met : Known → State
state_met k = states_after k.opening (but_last k.seen)

-- the two halves of a seat: the first keeps its calls, the second has none
abbrev pub first_half : Known → Known
first_half k = record k { name = k.name ++ false ∷ [] }

abbrev pub second_half : Known → Known
second_half k = record k { name = k.name ++ true ∷ []; mine = [] }

-- One seat of two, under the name of the first. It has seen what both had seen, and keeps the calls of both.
pub record Joined (first second new : Known) : Type 0 where
  pub same_book : new.opening ≡ first.opening
  pub same_name : new.name ≡ first.name
  pub seen : Begins first.seen new.seen
  pub other_seen : Begins second.seen new.seen
  pub mine : new.mine ≡ first.mine ++ second.mine
  pub sound : IsSound new
