-- What becomes of the answers to a request. Feedback tells the connection of the request how long it may be idle, and when a
-- transaction begins and ends; a reply is queued; an error item aborts the request.
use Rattle.std.specs.Prelude.{ℕ, List, Option, Some, None, Ok, Err}
use Rattle.dns_base.specs.Msg.{Msg}
use Rattle.dns_service.specs.Answer.{Answer, Item}
use Rattle.dns_replies.specs.ErrorReply.{error_reply}
use Rattle.dns_service.specs.Errors.{rcode_of}
use Rattle.dns_service.specs.declared.invoker.Dispatched.{Dispatched}
use Rattle.dns_service.specs.declared.invoker.Dispatched.TheVariants as dispatched
use Rattle.dns_service.specs.declared.invoker.Enqueued.{Enqueued}
use Rattle.dns_service.specs.declared.invoker.InvokerStatus.{InvokerStatus}
use Rattle.dns_service.specs.declared.invoker.InvokerStatus.TheVariants.{Normal, InTransaction, Aborting}
use Rattle.dns_service.specs.declared.service.Polled.TheVariants.{Pending, Ready}
use Rattle.dns_service.specs.declared.service.ServiceFeedback.{ServiceFeedback}
use Rattle.dns_service.specs.declared.service.ServiceFeedback.TheVariants.{Reconfigure, BeginTransaction, EndTransaction}

-- an error item is answered by an error reply
abbrev pub reply_in : List ℕ → Item → Option Msg
reply_in o (Ok given) = given.response
reply_in o (Err error) = Some (error_reply o (rcode_of error))

-- what an item tells besides its reply
abbrev pub feedback_in : Item → Option ServiceFeedback
feedback_in (Ok given) = given.feedback
feedback_in (Err error) = None

-- what a poll led to
abbrev pub dispatched_by : Answer → Dispatched
dispatched_by Pending = dispatched.Pending
dispatched_by (Ready None) = dispatched.Ended
dispatched_by (Ready (Some (Ok given))) = dispatched.Item
dispatched_by (Ready (Some (Err error))) = dispatched.Aborted

-- what the calls of an invoker do: how far its request is, and what it is after each call
pub record Invoking (X : Type 0) : Type 0 where
  pub status : X → InvokerStatus
  pub with_status : X → InvokerStatus → X
  pub reconfigured : X → Option ℕ → X
  pub enqueued : X → Msg → X × Enqueued

module _ {X : Type 0} (invoking : Invoking X) where
  -- an invoker hears a feedback
  abbrev pub after_feedback : ServiceFeedback → X → X
  after_feedback (Reconfigure timeout) x = invoking.reconfigured x timeout
  after_feedback BeginTransaction x = invoking.with_status x InTransaction
  after_feedback EndTransaction x = invoking.with_status x Normal

  abbrev pub after_some_feedback : Option ServiceFeedback → X → X
  after_some_feedback None x = x
  after_some_feedback (Some feedback) x = after_feedback feedback x

  abbrev pub after_item : Item → X → X
  after_item (Ok given) x = after_some_feedback given.feedback x
  after_item (Err error) x = invoking.with_status x Aborting

  -- an invoker queues a reply
  abbrev pub after_reply : Option Msg → X → X
  after_reply None x = x
  after_reply (Some m) x = (invoking.enqueued x m).0

  -- an invoker hears the feedback of an item first, and then queues its reply to octets that are a message
  abbrev pub after_answer : List ℕ → Answer → X → X
  after_answer o Pending x = x
  after_answer o (Ready None) x = x
  after_answer o (Ready (Some item)) x = after_reply (reply_in o item) (after_item item x)
