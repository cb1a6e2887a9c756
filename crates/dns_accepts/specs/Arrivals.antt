-- What the steps of the loop of accepts do.
use Rattle.std.specs.Prelude.{◌≡◌, ◌≢◌, ◌≤◌, ◌⊎◌, ℕ, ◌+◌, List, [], ◌++◌, length, Bool, true, false, Result, Ok, Err, Option, Some, None}
use Rattle.dns_name.specs.declared.address.SocketAddr.{SocketAddr}
use Rattle.dns_name.specs.declared.error.OutOfMemory.{OutOfMemory}
use Rattle.dns_admission.specs.declared.admission.Admission.{Admission}
use Rattle.dns_admission.specs.declared.admission.Admission.TheVariants.{Admitted, Full, Closed}
use Rattle.dns_events.specs.declared.look.Look.{Look}
use Rattle.dns_admission.specs.declared.call.Call.TheVariants.{Look as ToLook}
use Rattle.dns_admission.specs.declared.call.Reply.TheVariants.{Look as Shown}
use Rattle.dns_book.specs.Gains.{Gained}
use Rattle.dns_book.specs.Seats.{Called}
use Rattle.dns_book.specs.declared.history.Known.{Known}
use Rattle.dns_io.specs.Causes.{Rose, Observed}
use Rattle.dns_io.specs.AcceptTraffic.{AcceptTraffic}
use Rattle.dns_io.specs.declared.spawner.Start.{Start}
use Rattle.dns_io.specs.declared.spawner.Start.TheVariants.{Started, Failed}
use Rattle.dns_accepts.specs.Accepting.{Came, Caller, Nobody, Fault, AcceptTurn, caller, callers_in, if_admitted, admitted_caller, admitted_callers_in, one_if_nobody, one_if_failure, halved, admit_entries, RoseBy, Gave, TookTurns, AcceptsTo}
use Rattle.dns_accepts.specs.declared.accepts.AcceptEnd.{AcceptEnd}
use Rattle.dns_accepts.specs.declared.accepts.AcceptEnd.TheVariants.{Shutdown, Counted, OutOfMemory as NoMemory}
use Rattle.dns_accepts.specs.declared.taking.Arrival.{Arrival}
use Rattle.dns_accepts.specs.declared.taking.Arrival.TheVariants.{WorkStarted, Refused, TurnedAway, Nobody as NobodyCame, Fault as FaultCame}

-- the connections that came
abbrev pub arrival_callers : Arrival → ℕ
arrival_callers WorkStarted = 1
arrival_callers Refused = 1
arrival_callers TurnedAway = 1
arrival_callers NobodyCame = 0
arrival_callers FaultCame = 0

-- how many connections of an arrival were admitted: one at most
abbrev pub arrival_admitted : Arrival → ℕ
arrival_admitted WorkStarted = 1
arrival_admitted Refused = 1
arrival_admitted TurnedAway = 0
arrival_admitted NobodyCame = 0
arrival_admitted FaultCame = 0

-- what the start of an admitted connection's work brought
abbrev pub arrival_of : Result Start OutOfMemory → Result Arrival OutOfMemory
arrival_of (Ok Started) = Ok WorkStarted
arrival_of (Ok Failed) = Ok Refused
arrival_of (Err e) = Err e

-- the accept failed, or the start was refused
abbrev pub is_faulty : Arrival → Bool
is_faulty WorkStarted = false
is_faulty Refused = true
is_faulty TurnedAway = false
is_faulty NobodyCame = false
is_faulty FaultCame = true

abbrev pub IsAdmitted : Admission → Type 0
IsAdmitted (Admitted look) = Unit {0}
IsAdmitted (Full taken limit accepted) = ⊥
IsAdmitted Closed = ⊥

-- memory runs out only for a connection that was admitted
abbrev pub ArrivalOfAnswer : Result Arrival OutOfMemory → Admission → Type 0
ArrivalOfAnswer (Ok arrival) answer = arrival_callers arrival ≡ 1
ArrivalOfAnswer (Err e) answer = IsAdmitted answer

abbrev pub ArrivalOf : Result Arrival OutOfMemory → Came → Type 0
ArrivalOf (Ok arrival) came = length (caller came) ≡ arrival_callers arrival
ArrivalOf (Err e) (Caller from answer) = IsAdmitted answer
ArrivalOf (Err e) Nobody = ⊥
ArrivalOf (Err e) Fault = ⊥

-- works for these addresses were given, or perhaps not if memory ran out
abbrev pub GaveSo : Result Arrival OutOfMemory → List SocketAddr → List SocketAddr → List SocketAddr → Type 0
GaveSo (Ok arrival) addrs a b = Gave addrs a b
GaveSo (Err e) addrs a b = Gave addrs a b ⊎ Gave [] a b

-- a connection from this address was asked for a slot
pub record AskedOne (arrival : Result Arrival OutOfMemory) (from : SocketAddr) (now before : Type 0) (k k' : Known)
    (given given' : List SocketAddr) : Type 0 where
  pub answer : Admission
  pub calls : Gained k (admit_entries k.name (Caller from answer)) k'
  pub name : k'.name ≡ halved k.name (if_admitted from answer)
  pub arrival_is : ArrivalOfAnswer arrival answer
  pub works : Observed now before (GaveSo arrival (if_admitted from answer) given given')

-- what the accept object and the spawner tell of one turn
pub record BroughtIn (arrival : Result Arrival OutOfMemory) (came : Came) (a b : AcceptTraffic)
    (given given' : List SocketAddr) : Type 0 where
  pub callers : b.callers ≡ a.callers ++ caller came
  pub nobody : b.empty_accepts ≡ a.empty_accepts + one_if_nobody came
  pub works : GaveSo arrival (admitted_caller came) given given'

-- one accept
pub record Brought (arrival : Result Arrival OutOfMemory) (now before : Type 0) (k k' : Known) (a b : AcceptTraffic)
    (given given' : List SocketAddr) (f f' : ℕ) : Type 0 where
  pub came : Came
  pub calls : Gained k (admit_entries k.name came) k'
  pub name : k'.name ≡ halved k.name (admitted_caller came)
  pub arrival_is : ArrivalOf arrival came
  pub faults : RoseBy (one_if_failure came) f f'
  pub observed : Observed now before (BroughtIn arrival came a b given given')

-- the count of refused starts rises with a refused one, and with no other arrival
abbrev pub StartFaults : Result Arrival OutOfMemory → ℕ → ℕ → Type 0
StartFaults (Ok Refused) a b = Rose a b
StartFaults (Ok WorkStarted) a b = b ≡ a
StartFaults (Ok TurnedAway) a b = b ≡ a
StartFaults (Ok NobodyCame) a b = b ≡ a
StartFaults (Ok FaultCame) a b = b ≡ a
StartFaults (Err e) a b = b ≡ a

-- the count of failed accepts rises with a failed one, and with no other arrival
abbrev pub AcceptFaults : Result Arrival OutOfMemory → ℕ → ℕ → Type 0
AcceptFaults (Ok FaultCame) a b = Rose a b
AcceptFaults (Ok WorkStarted) a b = b ≡ a
AcceptFaults (Ok Refused) a b = b ≡ a
AcceptFaults (Ok TurnedAway) a b = b ≡ a
AcceptFaults (Ok NobodyCame) a b = b ≡ a
AcceptFaults (Err e) a b = b ≡ a

-- one of two counts rose, exactly if the flag says so
abbrev pub RoseWhere : Bool → ℕ → ℕ → ℕ → ℕ → Type 0
RoseWhere true a b c d = Rose a b ⊎ Rose c d
RoseWhere false a b c d = (b ≡ a) × (d ≡ c)

-- the loop so far: whole turns, in which as many connections came as are counted, if they are to be counted
pub record TookSoFar (count taken : ℕ) (now before : Type 0) (k k' : Known) (a b : AcceptTraffic) (given given' : List SocketAddr)
    (f f' : ℕ) : Type 0 where
  pub turns : List AcceptTurn
  pub turned : TookTurns turns [] now before (Gave (admitted_callers_in turns) given given') k k' a b f f'
  pub counted : count ≢ 0 → (taken ≡ length (callers_in turns)) × (taken ≤ count)

-- a look was made, and shows whether the book is closed
pub record LookedAt (closed : Bool) (k k' : Known) : Type 0 where
  pub look : Look
  pub called : Called k ToLook (Shown look) k'
  pub shown : look.closed ≡ closed

-- before an accept the loop ends without a look if that many connections came, else if a look shows a shutdown
abbrev pub EndedSo : Option AcceptEnd → ℕ → ℕ → Known → Known → Type 0
EndedSo (Some Counted) count taken k k' = (count ≢ 0) × (taken ≡ count) × (k' ≡ k)
EndedSo (Some Shutdown) count taken k k' = (count ≢ 0 → taken ≢ count) × LookedAt true k k'
EndedSo (Some NoMemory) count taken k k' = ⊥
EndedSo None count taken k k' = (count ≢ 0 → taken ≢ count) × LookedAt false k k'

-- How a loop of accepts went with an accept object and a spawner, which are read so. `risen` says whether an accept failed or a
-- start was refused. Neither count fell.
pub record AcceptsRan {S P : Type 0} (tells : S → Type 0) (accept_traffic : S → AcceptTraffic) (failed : S → ℕ) (works : P → Type 0)
    (given : P → List SocketAddr) (refused : P → ℕ)
    (end : AcceptEnd) (risen : Bool) (count : ℕ) (k k' : Known) (a b : S) (p q : P) : Type 0 where
  pub observed : AcceptsTo end count (tells b × works q) (tells a × works p) k k' (accept_traffic a) (accept_traffic b) (given p)
      (given q) (failed a) (failed b)
  pub rose : RoseWhere risen (failed a) (failed b) (refused p) (refused q)
  pub accepts_later : failed a ≤ failed b
  pub starts_later : refused p ≤ refused q
