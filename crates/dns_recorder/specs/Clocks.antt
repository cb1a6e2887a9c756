-- Each noted event carries a reading of the clock: milliseconds, and seconds.
use Rattle.std.specs.Prelude.{◌≡◌, ℕ, ◌+◌, ◌-◌, ◌≤◌, List, [], ◌∷◌, ◌++◌, length}
use Rattle.dns_events.specs.declared.event.Event.{Event}
use Rattle.dns_events.specs.declared.event.EventKind.{EventKind}
use Rattle.dns_events.specs.declared.event.EventKind.TheVariants.{Write, Fault}

abbrev pub ClockReading : Type 0
ClockReading = ℕ × ℕ

-- the reading stands in the list, and rest is the list from it on
pub record ComesAt (readings : List ClockReading) (r : ClockReading) (rest : List ClockReading) : Type 0 where
  pub skipped : List ClockReading
  pub later : List ClockReading
  pub is : readings ≡ skipped ++ r ∷ later
  pub rest_is : rest ≡ r ∷ later

-- a Write took the time from a reading that stands not after its own, or none if the clock went back
pub record TookFrom (readings : List ClockReading) (r : ClockReading) (took : ℕ) (rest : List ClockReading) : Type 0 where
  pub start : ClockReading
  pub since : List ClockReading
  pub begun : ComesAt readings start since
  pub ended : ComesAt since r rest
  pub took_is : took ≡ r.0 - start.0

abbrev pub DatedBy : EventKind → List ClockReading → ClockReading → List ClockReading → Type 0
DatedBy (Write took) readings r rest = TookFrom readings r took rest
DatedBy _ readings r rest = ComesAt readings r rest

-- each event carries a reading, at a place not before that of the event before it
abbrev pub Dated : List ClockReading → List Event → Type 0
Dated readings [] = Unit {0}
Dated readings (e ∷ es) = (rest : List ClockReading) × DatedBy e.kind readings (e.at, e.secs) rest × Dated rest es

abbrev pub write_count : EventKind → ℕ
write_count (Write took) = 1
write_count _ = 0

abbrev pub fault_count : EventKind → ℕ
fault_count Fault = 1
fault_count _ = 0

-- the Writes among some events, and the Faults
abbrev pub writes_in : List Event → ℕ
writes_in [] = 0
writes_in (e ∷ es) = write_count e.kind + writes_in es

abbrev pub faults_in : List Event → ℕ
faults_in [] = 0
faults_in (e ∷ es) = fault_count e.kind + faults_in es

-- Of the events from n to n' each carries one of the readings from c to c'. There is one reading for each event, one more for each
-- Write and each Fault, and one for each write that answered Again. Of these there were again before and again' after; no more.
pub record Timed (n n' : List Event) (again again' : ℕ) (c c' : List ClockReading) : Type 0 where
  pub events : List Event
  pub readings : List ClockReading
  pub noted : n' ≡ n ++ events
  pub clock : c' ≡ c ++ readings
  pub dated : Dated readings events
  pub count : length readings + again ≤ length events + writes_in events + faults_in events + again'

-- Of the events of a whole connection, from n to n', each carries one of the readings from c to c'. A connection has
-- one Fault at most. So there is at most one reading more than one an event, one more for each Write, and one for each
-- write that answered Again.
pub record TimedWhole (n n' : List Event) (again again' : ℕ) (c c' : List ClockReading) : Type 0 where
  pub events : List Event
  pub readings : List ClockReading
  pub noted : n' ≡ n ++ events
  pub clock : c' ≡ c ++ readings
  pub dated : Dated readings events
  pub count : length readings + again ≤ length events + writes_in events + 1 + again'

-- the readings of one event that is not noted yet
pub record TimedOne (event : Event) (again again' : ℕ) (c c' : List ClockReading) : Type 0 where
  pub readings : List ClockReading
  pub clock : c' ≡ c ++ readings
  pub dated : Dated readings (event ∷ [])
  pub count : length readings + again ≤ 1 + write_count event.kind + fault_count event.kind + again'

-- one reading for each write that answered Again
pub record Waited (again again' : ℕ) (c c' : List ClockReading) : Type 0 where
  pub readings : List ClockReading
  pub clock : c' ≡ c ++ readings
  pub count : length readings + again ≡ again'

-- one reading for each write that answered Again, of which this one is the last
pub record LateAt (r : ClockReading) (again again' : ℕ) (c c' : List ClockReading) : Type 0 where
  pub before : List ClockReading
  pub clock : c' ≡ c ++ (before ++ r ∷ [])
  pub count : length before + 1 + again ≡ again'
