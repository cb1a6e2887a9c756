-- The rule that the cell and its passes keep, and what each step tells its pass. Callers need nothing of it.
use Rattle.std.specs.Prelude.{◌≡◌, ◌≢◌, ℕ, Bool, true, false, List, [], ◌∷◌, ◌++◌, ◌⊎◌}
use mathlib.Core.Option.{some}
use lib.ListN.{get_elem?}
use Rattle.dns_events.specs.declared.look.Look.{Look as State}
use Rattle.dns_admission.specs.declared.call.Call.{Call}
use Rattle.dns_admission.specs.declared.call.Call.TheVariants.{Look}
use Rattle.dns_book.specs.declared.history.Entry.{Entry}
use Rattle.dns_book.specs.declared.history.Known.{Known}
use Rattle.dns_book.specs.declared.rule.View.{View}
use Rattle.dns_admission.specs.Machine.{reply_of}
use Rattle.dns_book.specs.Words.{state_of}
use Rattle.dns_book.specs.History.{SeatName, Under, states_after, IsLegal, calls_by, entries_in, Has, IsMap, Begins}
use Rattle.dns_book.specs.Seats.{new_known, IsSound, Called, state_met, first_half, second_half}

-- what a pass knows that knows nothing
abbrev pub nothing : Known
nothing = new_known (state_of [])

-- the first pass, before its seat opened the book
abbrev pub newcomer : View
newcomer = record { opened = false; live = false; handed = []; known = nothing }

-- the first pass, once its seat opened the book
abbrev pub opened_as : State → View
opened_as s = record { opened = true; live = true; handed = []; known = new_known s }

-- a pass that another took in
abbrev pub gone : View
gone = record { opened = true; live = false; handed = []; known = nothing }

-- the name is the pass's own, or one of those whose calls it keeps
abbrev pub Owns : View → SeatName → Type 0
Owns v n = (v.live ≡ true) × ((n ≡ v.known.name) ⊎ Has n v.known.mine)

-- what the pass knows is a part of the history
pub record FitsHistory (opening : State) (log : List Entry) (v : View) : Type 0 where
  pub ready : v.opened ≡ true
  pub start : v.live ≡ true → v.known.opening ≡ opening
  pub seen : Begins v.known.seen log
  pub handed : Begins v.handed log
  pub mine : (n : SeatName) → Owns v n → calls_by n log ≡ entries_in n v.known.mine
  pub map : IsMap v.known.mine

-- two passes own no name together, and neither owns one below the name of the other
pub record Apart (v u : View) : Type 0 where
  pub names : (n : SeatName) → Owns v n → Owns u n → ⊥
  pub below : (n : SeatName) → v.live ≡ true → Owns u n → Under v.known.name n → ⊥

-- a pass owns no name below its own
abbrev pub OwnBelow : View → Type 0
OwnBelow v = (n : SeatName) → Owns v n → Under v.known.name n → ⊥

pub record InOrder (opening : State) (log : List Entry) (views : List View) : Type 0 where
  pub legal : IsLegal opening log
  pub fits : (j : ℕ) (v : View) → get_elem? views j ≡ some v → FitsHistory opening log v
  pub own : (j : ℕ) (v : View) → get_elem? views j ≡ some v → OwnBelow v
  pub apart : (i j : ℕ) (v u : View) → i ≢ j → get_elem? views i ≡ some v → get_elem? views j ≡ some u → Apart v u
  pub known : (n : SeatName) → (calls_by n log ≡ []) ⊎ ((j : ℕ) × (u : View) × (get_elem? views j ≡ some u) × Owns u n)

-- The words stand for the state after one legal history, of which each pass knows a part. Before that there is one pass, which
-- knows nothing.
abbrev pub KeptInOrder : List ℕ → List View → Type 0
KeptInOrder words views =
    (views ≡ newcomer ∷ [])
    ⊎ ((opening : State) × (log : List Entry) × (state_of words ≡ states_after opening log) × InOrder opening log views)

-- the pass of a seat that can call
abbrev pub CanCall : View → Type 0
CanCall v = (v.opened ≡ true) × (v.live ≡ true) × (v.handed ≡ [])

-- a read before a try
abbrev pub ReadsWords : View → List ℕ → List ℕ → View → Type 0
ReadsWords v before after w = w ≡ v

-- the call was made, at the state that the words stand for
abbrev pub Made : Call → State → View → View → Type 0
Made call at v w = Called v.known call (reply_of at call) w.known × (state_met w.known ≡ at) × CanCall w

-- a try: at the words that it expects the call is made, at others nothing happened
abbrev pub Tries : Call → List ℕ → View → List ℕ → List ℕ → View → Type 0
Tries call current v before after w = (before ≡ current → Made call (state_of before) v w) × (before ≢ current → w ≡ v)

-- one load is a look
abbrev pub Looks : View → List ℕ → List ℕ → View → Type 0
Looks v before after w = Made Look (state_of before) v w

-- the words are written, and the first seat begins at their state
abbrev pub Opens : View → List ℕ → List ℕ → View → Type 0
Opens v before after w = w ≡ opened_as (state_of after)

-- the two halves at a split
abbrev pub first_view : View → View
first_view v = record v { known = first_half v.known }

abbrev pub second_view : View → View
second_view v = record v { known = second_half v.known }

-- all that a pass knows goes to a new pass
abbrev pub none_of : View → View
none_of v = gone

abbrev pub whole_of : View → View
whole_of v = v

-- a pass that took in another's calls, and was told what the other had seen
abbrev pub both_of : View → View → View
both_of v w = record v { handed = w.known.seen; known = record v.known { mine = v.known.mine ++ w.known.mine } }

-- the load after that: the pass has seen the whole history, in which stands what it had seen and what it was told
pub record Settled (v w : View) : Type 0 where
  pub same_book : w.known.opening ≡ v.known.opening
  pub same_name : w.known.name ≡ v.known.name
  pub seen : Begins v.known.seen w.known.seen
  pub handed : Begins v.handed w.known.seen
  pub mine : w.known.mine ≡ v.known.mine
  pub sound : IsSound w.known

abbrev pub Settles : View → List ℕ → List ℕ → View → Type 0
Settles v before after w = Settled v w × CanCall w

-- The first seat opens the book at its first step. Until then it holds the state that the book will open with.
abbrev pub view_of : Bool → State → View → View
view_of false shown v = opened_as shown
view_of true shown v = v

-- what was shown: the state after a part of a history
pub record WasShown (s opening : State) (seen : List Entry) : Type 0 where
  pub before : List Entry
  pub began : Begins before seen
  pub is : s ≡ states_after opening before

abbrev pub IsReady : Bool → State → View → Type 0
IsReady false shown v = v ≡ newcomer
IsReady true shown v = CanCall v × IsSound v.known × WasShown shown v.known.opening v.known.seen
