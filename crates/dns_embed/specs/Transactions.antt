-- What the service of a request gives to its connection: what is heard of it, and the frame of its reply.
use Rattle.std.specs.Prelude.{ℕ, ◌+◌, ◌-◌, ◌==◌, min, Bool, true, false, List, length, Option, Some, None, if◌then◌else◌}
use Rattle.dns_service.specs.Invokers.{after_feedback}
use Rattle.dns_service.specs.declared.invoker.Enqueued.{Enqueued}
use Rattle.dns_service.specs.declared.invoker.Enqueued.TheVariants.{Dropped}
use Rattle.dns_service.specs.declared.invoker.InvokerStatus.{InvokerStatus}
use Rattle.dns_service.specs.declared.invoker.InvokerStatus.TheVariants.{Aborting}
use Rattle.dns_framing.specs.Frames.{framed}
use Rattle.dns_framing.specs.Invoker.{begun_with, connection_invoking, enqueued_by, offered}
use Rattle.dns_framing.specs.Transactions.{is_in_transaction}
use Rattle.dns_framing.specs.declared.invoker.ConnectionInvoker.{ConnectionInvoker}
use Rattle.dns_embed.specs.declared.connection.Connection.{Connection}
use Rattle.dns_embed.specs.declared.transactions.Heard.{Heard}
use Rattle.dns_embed.specs.declared.transactions.Heard.TheVariants.{Nothing, Feedback, Failure}

-- an invoker hears a feedback of the service, or nothing
abbrev pub hearing : Heard → ConnectionInvoker → ConnectionInvoker
hearing Nothing i = i
hearing (Feedback f) i = after_feedback connection_invoking f i
hearing Failure i = record i { status = Aborting }

-- the frame of a reply; no octets are no reply
abbrev pub frame_in : List ℕ → Option (List ℕ)
frame_in o = if length o == 0 then None else Some (framed o)

-- a frame is queued, if there is room
abbrev pub queueing : Option (List ℕ) → ConnectionInvoker → ConnectionInvoker
queueing None i = i
queueing (Some m) i = offered i m

-- what becomes of it: without room it is Held in a transaction, and else Dropped
abbrev pub enqueued_as : Option (List ℕ) → ConnectionInvoker → Option Enqueued
enqueued_as None i = None
enqueued_as (Some m) i = Some (enqueued_by i m).1

-- what becomes of it if nobody waits for it any more
abbrev pub dropped_as : Option (List ℕ) → Option Enqueued
dropped_as None = None
dropped_as (Some m) = Some Dropped

-- the connection and the request, which is so far, once that is heard, and with the frame
abbrev pub invoker_hearing : ℕ → InvokerStatus → Heard → Connection → ConnectionInvoker
invoker_hearing at status heard c = hearing heard (begun_with status (record c.invoker { at = at }))

abbrev pub invoker_given : ℕ → InvokerStatus → Heard → Option (List ℕ) → Connection → ConnectionInvoker
invoker_given at status heard frame c = queueing frame (invoker_hearing at status heard c)

-- how many are in a transaction, of which one was, or is now
abbrev pub counted : ℕ → Bool → Bool → ℕ
counted n true true = n
counted n true false = n - 1
counted n false true = min (n + 1) 18446744073709551615
counted n false false = n

abbrev pub giving : ℕ → InvokerStatus → Heard → Option (List ℕ) → Connection → Connection
giving at status heard frame c =
    let i = invoker_given at status heard frame c in
    record c { invoker = i; transactions = counted c.transactions (is_in_transaction status) (is_in_transaction i.status) }

-- how far the request is then, and what became of its reply: of a connection that is to be closed nothing is heard
abbrev pub status_of : ℕ → InvokerStatus → Heard → Option (List ℕ) → Connection → InvokerStatus
status_of at status heard frame c = if c.is_closing then status else (invoker_given at status heard frame c).status

abbrev pub enqueued_of : ℕ → InvokerStatus → Heard → Option (List ℕ) → Connection → Option Enqueued
enqueued_of at status heard frame c = if c.is_closing then dropped_as frame else enqueued_as frame (invoker_hearing at status heard c)
