-- What a call leaves that gives a connection what the service of a request gave, by its status.
use Rattle.std.specs.Prelude.{ℕ, ◌≡◌, ◌<◌, ◌≤◌, Bool, true, false, List, length, nat_eq, Option, Some, None, if◌then◌else◌}
use Rattle.dns_service.specs.declared.invoker.Enqueued.{Enqueued}
use Rattle.dns_service.specs.declared.invoker.Enqueued.TheVariants.{Queued, Held as HeldBack, Dropped as LetGo}
use Rattle.dns_service.specs.declared.invoker.InvokerStatus.{InvokerStatus}
use Rattle.dns_service.specs.declared.invoker.InvokerStatus.TheVariants.{Normal, InTransaction, Aborting}
use Rattle.dns_service.specs.declared.service.ServiceFeedback.TheVariants.{Reconfigure, BeginTransaction, EndTransaction}
use Rattle.dns_embed.specs.declared.connection.Connection.{Connection}
use Rattle.dns_embed.specs.declared.transactions.Heard.{Heard}
use Rattle.dns_embed.specs.declared.transactions.Heard.TheVariants.{Nothing as HeardNothing, Feedback, Failure}
use Rattle.dns_embed.specs.Transactions.{enqueued_as, frame_in, giving, invoker_given, invoker_hearing}
use Rattle.nutscythe_c.specs.declared.handle_value.HandleValue.{HandleValue}
use Rattle.nutscythe_c.specs.declared.handle_value.HandleValue.TheVariants.{Connection as KeptConnection}
use Rattle.nutscythe_c.specs.declared.status.Status.{Status}
use Rattle.nutscythe_c.specs.declared.status.Status.TheVariants.{Done, Nothing, Dropped, Held, NoMemory, NoHandle, OutOfRange, TooLong}

-- how far a request is, by a number
abbrev pub state_of : ℕ → Option InvokerStatus
state_of n =
    if nat_eq n 0 then Some Normal
    else (if nat_eq n 1 then Some InTransaction
    else (if nat_eq n 2 then Some Aborting else None))

abbrev pub state_number : InvokerStatus → ℕ
state_number Normal = 0
state_number InTransaction = 1
state_number Aborting = 2

-- what is heard of it, by a number, and a time in ms
abbrev pub heard_of : ℕ → ℕ → Option Heard
heard_of n timeout =
    if nat_eq n 0 then Some HeardNothing
    else (if nat_eq n 1 then Some (Feedback BeginTransaction)
    else (if nat_eq n 2 then Some (Feedback EndTransaction)
    else (if nat_eq n 3 then Some (Feedback (Reconfigure (Some timeout)))
    else (if nat_eq n 4 then Some Failure else None))))

-- what became of its reply, if there is one
abbrev pub enqueued_status : Option Enqueued → Status
enqueued_status None = Done
enqueued_status (Some Queued) = Done
enqueued_status (Some HeldBack) = Held
enqueued_status (Some LetGo) = Dropped

-- a request that isn't done: what is heard is heard, and its reply is queued, held or dropped
abbrev pub Given : ℕ → InvokerStatus → Heard → List ℕ → Connection → Connection → ℕ → ℕ → Status → Type 0
Given at state h o c d n n' TooLong = (65535 < length o) × (d ≡ c) × (n' ≡ n)
Given at state h o c d n n' NoMemory = (d ≡ c) × (n' ≡ n)
Given at state h o c d n n' t = (length o ≤ 65535) × (d ≡ giving at state h (frame_in o) c)
    × (n' ≡ state_number (invoker_given at state h (frame_in o) c).status)
    × (t ≡ enqueued_status (enqueued_as (frame_in o) (invoker_hearing at state h c)))

-- of a connection that is to be closed nothing is heard any more
abbrev pub GivenBy : Bool → ℕ → InvokerStatus → Heard → List ℕ → Connection → Connection → ℕ → ℕ → Status → Type 0
GivenBy true at state h o c d n n' t = (t ≡ Nothing) × (d ≡ c) × (n' ≡ n)
GivenBy false at state h o c d n n' t = Given at state h o c d n n' t

-- one that ended with an error is done, and nothing is heard of it any more
abbrev pub GivenTo : ℕ → InvokerStatus → Heard → List ℕ → Connection → Connection → ℕ → ℕ → Status → Type 0
GivenTo at Normal h o c d n n' t = GivenBy c.is_closing at Normal h o c d n n' t
GivenTo at InTransaction h o c d n n' t = GivenBy c.is_closing at InTransaction h o c d n n' t
GivenTo at Aborting h o c d n n' t = (t ≡ Nothing) × (d ≡ c) × (n' ≡ n)

abbrev pub GivesTo : ℕ → InvokerStatus → Heard → List ℕ → Option HandleValue → Option HandleValue → ℕ → ℕ → Status → Type 0
GivesTo at state h o (Some (KeptConnection c)) after n n' t = (d : Connection) × (after ≡ Some (KeptConnection d))
    × GivenTo at state h o c d n n' t
GivesTo at state h o before after n n' t = (t ≡ NoHandle) × (after ≡ before) × (n' ≡ n)

-- by numbers that may be out of range
abbrev pub GivesBy : ℕ → Option InvokerStatus → Option Heard → List ℕ → Option HandleValue → Option HandleValue → ℕ → ℕ → Status → Type 0
GivesBy at (Some state) (Some h) o before after n n' t = GivesTo at state h o before after n n' t
GivesBy at (Some state) None o before after n n' t = (t ≡ OutOfRange) × (after ≡ before) × (n' ≡ n)
GivesBy at None h o before after n n' t = (t ≡ OutOfRange) × (after ≡ before) × (n' ≡ n)
