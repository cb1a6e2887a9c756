-- How connections are accepted, turn by turn.
use Rattle.std.specs.Prelude.{◌≡◌, ◌≢◌, ◌≤◌, ◌<◌, ◌⊎◌, ℕ, ◌+◌, ◌-◌, ◌^◌, min, List, [], ◌∷◌, ◌++◌, length, replicate, true, false}
use Rattle.std.specs.List.{All}
use Rattle.dns_name.specs.declared.address.SocketAddr.{SocketAddr}
use Rattle.dns_events.specs.declared.look.Look.{Look}
use Rattle.dns_admission.specs.declared.admission.Admission.{Admission}
use Rattle.dns_admission.specs.declared.admission.Admission.TheVariants.{Admitted, Full, Closed}
use Rattle.dns_admission.specs.declared.call.Call.TheVariants.{Admit, Look as ToLook}
use Rattle.dns_admission.specs.declared.call.Reply.TheVariants.{Admission as Answered, Look as Shown}
use Rattle.dns_book.specs.Gains.{Gained}
use Rattle.dns_book.specs.History.{SeatName, entry}
use Rattle.dns_book.specs.declared.history.Entry.{Entry}
use Rattle.dns_book.specs.declared.history.Known.{Known}
use Rattle.dns_io.specs.Causes.{Observed}
use Rattle.dns_io.specs.AcceptTraffic.{AcceptTraffic}
use Rattle.dns_stream_driver.specs.Counts.{IsWithinCount}
use Rattle.dns_accepts.specs.declared.accepts.AcceptEnd.{AcceptEnd}
use Rattle.dns_accepts.specs.declared.accepts.AcceptEnd.TheVariants.{Shutdown, Counted, OutOfMemory}

-- what an accept brought: a connection from this address, with the book's answer to it; no connection; or a fault
pub data Came : Type 0 where
  Caller : SocketAddr → Admission → Came
  Nobody : Came
  Fault : Came

-- one turn: a look, and one accept
pub record AcceptTurn : Type 0 where
  pub look : Look
  pub came : Came

-- the addresses that came, and those of them that were admitted
abbrev pub caller : Came → List SocketAddr
caller (Caller from answer) = from ∷ []
caller Nobody = []
caller Fault = []

abbrev pub if_admitted : SocketAddr → Admission → List SocketAddr
if_admitted from (Admitted look) = from ∷ []
if_admitted from (Full taken limit accepted) = []
if_admitted from Closed = []

abbrev pub admitted_caller : Came → List SocketAddr
admitted_caller (Caller from answer) = if_admitted from answer
admitted_caller Nobody = []
admitted_caller Fault = []

abbrev pub callers_in : List AcceptTurn → List SocketAddr
callers_in [] = []
callers_in (t ∷ ts) = caller t.came ++ callers_in ts

abbrev pub admitted_callers_in : List AcceptTurn → List SocketAddr
admitted_callers_in [] = []
admitted_callers_in (t ∷ ts) = admitted_caller t.came ++ admitted_callers_in ts

-- the accepts that brought nobody, and those that failed
abbrev pub one_if_nobody : Came → ℕ
one_if_nobody (Caller from answer) = 0
one_if_nobody Nobody = 1
one_if_nobody Fault = 0

abbrev pub nobody_in : List AcceptTurn → ℕ
nobody_in [] = 0
nobody_in (t ∷ ts) = one_if_nobody t.came + nobody_in ts

abbrev pub one_if_failure : Came → ℕ
one_if_failure (Caller from answer) = 0
one_if_failure Nobody = 0
one_if_failure Fault = 1

abbrev pub failures_in : List AcceptTurn → ℕ
failures_in [] = 0
failures_in (t ∷ ts) = one_if_failure t.came + failures_in ts

-- a name with one 0 more for each of some admitted connections: their work got the second halves of the seat
abbrev pub halved : SeatName → List SocketAddr → SeatName
halved name admitted = name ++ replicate (length admitted) false

-- the calls of a seat: in each turn a look, and an admit for a connection that came, under the name that the seat has then
abbrev pub admit_entries : SeatName → Came → List Entry
admit_entries name (Caller from answer) = entry name Admit (Answered answer) ∷ []
admit_entries name Nobody = []
admit_entries name Fault = []

abbrev pub look_entry : SeatName → Look → Entry
look_entry name look = entry name ToLook (Shown look)

abbrev pub turn_entries : SeatName → List AcceptTurn → List Entry
turn_entries name [] = []
turn_entries name (t ∷ ts) = look_entry name t.look ∷ (admit_entries name t.came ++ turn_entries (halved name (admitted_caller t.came)) ts)

-- the count rose so often, or stands at the last value of its 64 bits
abbrev pub RoseBy : ℕ → ℕ → ℕ → Type 0
RoseBy n before now = min (before + n) (2 ^ 64 - 1) ≤ now

-- the door let these in, one by one
pub record LetIn (turns : List AcceptTurn) (a b : AcceptTraffic) : Type 0 where
  pub callers : b.callers ≡ a.callers ++ callers_in turns
  pub nobody : b.empty_accepts ≡ a.empty_accepts + nobody_in turns

-- works were given to the spawner, for these addresses in their order
abbrev pub Gave : List SocketAddr → List SocketAddr → List SocketAddr → Type 0
Gave addrs a b = b ≡ a ++ addrs

-- the last turn brought a connection that was admitted
pub record EndsAdmitted (turns before : List AcceptTurn) : Type 0 where
  pub look : Look
  pub from : SocketAddr
  pub shown : Look
  pub is : turns ≡ before ++ (record { look = look; came = Caller from (Admitted shown) }) ∷ []

-- Turns were made, and then these calls of the seat; and works were given so. There is one look for each connection that came, each
-- accept that brought nobody and each fault, and none of these shows a shutdown.
pub record TookTurns (turns : List AcceptTurn) (more : List Entry) (now before works : Type 0) (k k' : Known) (a b : AcceptTraffic)
    (f f' : ℕ) : Type 0 where
  pub calls : Gained k (turn_entries k.name turns ++ more) k'
  pub running : All (λ t. t.look.closed ≡ false) turns
  pub name : k'.name ≡ halved k.name (admitted_callers_in turns)
  pub faults : RoseBy (failures_in turns) f f'
  pub observed : Observed now before (LetIn turns a b × works)

-- that many connections came
pub record TookCount (count : ℕ) (now before : Type 0) (k k' : Known) (a b : AcceptTraffic) (given given' : List SocketAddr)
    (f f' : ℕ) : Type 0 where
  pub turns : List AcceptTurn
  pub some : count ≢ 0
  pub all : length (callers_in turns) ≡ count
  pub turned : TookTurns turns [] now before (Gave (admitted_callers_in turns) given given') k k' a b f f'

-- one look more showed a shutdown, if fewer connections came than were to come
pub record TookUntilShut (count : ℕ) (now before : Type 0) (k k' : Known) (a b : AcceptTraffic) (given given' : List SocketAddr)
    (f f' : ℕ) : Type 0 where
  pub turns : List AcceptTurn
  pub look : Look
  pub shut : look.closed ≡ true
  pub fewer : count ≢ 0 → length (callers_in turns) < count
  pub turned : TookTurns turns (look_entry k'.name look ∷ []) now before (Gave (admitted_callers_in turns) given given') k k' a b f f'

-- memory ran out at the work of the connection that came last, which may be missing; no more came than were to come
pub record TookAlmost (count : ℕ) (now before : Type 0) (k k' : Known) (a b : AcceptTraffic) (given given' : List SocketAddr)
    (f f' : ℕ) : Type 0 where
  pub turns : List AcceptTurn
  pub whole : List AcceptTurn
  pub last : EndsAdmitted turns whole
  pub within : IsWithinCount count (length (callers_in turns))
  pub turned : TookTurns turns [] now before
      (Gave (admitted_callers_in turns) given given' ⊎ Gave (admitted_callers_in whole) given given') k k' a b f f'

-- how a loop of accepts went, by its end
abbrev pub AcceptsTo : AcceptEnd → ℕ → Type 0 → Type 0 → Known → Known → AcceptTraffic → AcceptTraffic → List SocketAddr
    → List SocketAddr → ℕ → ℕ → Type 0
AcceptsTo Counted count now before k k' a b given given' f f' = TookCount count now before k k' a b given given' f f'
AcceptsTo Shutdown count now before k k' a b given given' f f' = TookUntilShut count now before k k' a b given given' f f'
AcceptsTo OutOfMemory count now before k k' a b given given' f f' = TookAlmost count now before k k' a b given given' f f'
