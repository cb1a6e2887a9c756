-- Names of seats, histories, and finite maps from names to lists of entries.
use Rattle.std.specs.Prelude.{◌≡◌, Bool, true, false, if◌then◌else◌, List, [], ◌∷◌, ◌++◌, ◌⊎◌}
use Rattle.dns_events.specs.declared.look.Look.{Look as State}
use Rattle.dns_admission.specs.declared.call.Call.{Call}
use Rattle.dns_admission.specs.declared.call.Reply.{Reply}
use Rattle.dns_book.specs.declared.history.Entry.{Entry}
use Rattle.dns_book.specs.declared.history.Share.{Share}
use Rattle.dns_admission.specs.Machine.{state_after, reply_of}

-- a seat's name: at each split that it comes from, whether it is the second
abbrev pub SeatName : Type 0
SeatName = List Bool

-- n lies properly below p: a seat of that name comes from a split of one named p
abbrev pub Under : SeatName → SeatName → Type 0
Under p n = (b : Bool) × (rest : SeatName) × (n ≡ p ++ b ∷ rest)

abbrev pub entry : SeatName → Call → Reply → Entry
entry by call reply = record { by = by; call = call; reply = reply }

-- the state after a history
abbrev pub states_after : State → List Entry → State
states_after s [] = s
states_after s (e ∷ es) = states_after (state_after s e.call) es

-- each reply is the machine's after the entries before it
abbrev pub IsLegal : State → List Entry → Type 0
IsLegal s [] = Unit {0}
IsLegal s (e ∷ es) = (e.reply ≡ reply_of s e.call) × IsLegal (state_after s e.call) es

-- the first is the beginning of the second
abbrev pub Begins : List Entry → List Entry → Type 0
Begins xs ys = (rest : List Entry) × (ys ≡ xs ++ rest)

-- all entries but the last
abbrev pub but_last : List Entry → List Entry
but_last [] = []
but_last (e ∷ []) = []
but_last (e ∷ f ∷ es) = e ∷ but_last (f ∷ es)

abbrev pub same_bit : Bool → Bool → Bool
same_bit true b = b
same_bit false true = false
same_bit false false = true

abbrev pub same : SeatName → SeatName → Bool
same [] [] = true
same [] (y ∷ ys) = false
same (x ∷ xs) [] = false
same (x ∷ xs) (y ∷ ys) = if same_bit x y then same xs ys else false

-- the entries under one name
abbrev pub calls_by : SeatName → List Entry → List Entry
calls_by n [] = []
calls_by n (e ∷ es) = if same n e.by then e ∷ calls_by n es else calls_by n es

abbrev pub share : SeatName → List Entry → Share
share name calls = record { name = name; calls = calls }

-- the entries that a map has under one name
abbrev pub entries_in : SeatName → List Share → List Entry
entries_in n [] = []
entries_in n (s ∷ ss) = if same n s.name then s.calls else entries_in n ss

-- the map has the name
abbrev pub Has : SeatName → List Share → Type 0
Has n [] = ⊥
Has n (s ∷ ss) = (n ≡ s.name) ⊎ Has n ss

-- no name stands twice
abbrev pub IsMap : List Share → Type 0
IsMap [] = Unit {0}
IsMap (s ∷ ss) = (Has s.name ss → ⊥) × IsMap ss

-- the map with one entry more under the name
abbrev pub with_entry : SeatName → Entry → List Share → List Share
with_entry n e [] = share n (e ∷ []) ∷ []
with_entry n e (s ∷ ss) = if same n s.name then share s.name (s.calls ++ e ∷ []) ∷ ss else s ∷ with_entry n e ss
