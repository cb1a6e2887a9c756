-- What a poll answers: pending, an item, or the end. The answers of a polled state are a function of the poll's number.
use Rattle.std.specs.Prelude.{Option, Some, None, Result}
use Rattle.dns_service.specs.declared.service.Polled.{Polled}
use Rattle.dns_service.specs.declared.service.Polled.TheVariants.{Pending, Ready}
use Rattle.dns_service.specs.declared.service.ServiceError.{ServiceError}
use Rattle.dns_service.specs.declared.service.CallResult.{CallResult}

abbrev pub Item : Type 0
Item = Result CallResult ServiceError

abbrev pub Answer : Type 0
Answer = Polled (Option Item)

-- an answer with its item mapped
abbrev pub mapped : (Item → Item) → Answer → Answer
mapped f Pending = Pending
mapped f (Ready None) = Ready None
mapped f (Ready (Some item)) = Ready (Some (f item))

-- a fact for each variant of a poll
abbrev pub IfPending : {T : Type 0} → Type 0 → Polled T → Type 0
IfPending P Pending = P
IfPending P (Ready x) = Unit {0}

abbrev pub IfReady : {T : Type 0} → (T → Type 0) → Polled T → Type 0
IfReady P Pending = Unit {0}
IfReady P (Ready x) = P x
