-- What is heard of the answers to a request: how far it is, and for how long its connection may be idle.
use Rattle.std.specs.Prelude.{ℕ, Option, Some, None, Ok, Err}
use Rattle.dns_framing.specs.Answer.{Answer, Item}
use Rattle.dns_framing.specs.InvokerStatus.{InvokerStatus}
use Rattle.dns_framing.specs.InvokerStatus.TheVariants.{Normal, InTransaction, Aborting}
use Rattle.dns_framing.specs.Polled.TheVariants.{Pending, Ready}
use Rattle.dns_framing.specs.ServiceFeedback.{ServiceFeedback}
use Rattle.dns_framing.specs.ServiceFeedback.TheVariants.{Reconfigure, BeginTransaction, EndTransaction}
use Rattle.dns_framing.specs.Invoker.{timeout_given}

-- how far a request is after a feedback, and after an item
abbrev pub status_after : ServiceFeedback → InvokerStatus → InvokerStatus
status_after (Reconfigure timeout) status = status
status_after BeginTransaction status = InTransaction
status_after EndTransaction status = Normal

abbrev pub status_after_some : Option ServiceFeedback → InvokerStatus → InvokerStatus
status_after_some None status = status
status_after_some (Some feedback) status = status_after feedback status

abbrev pub item_status : Item → InvokerStatus → InvokerStatus
item_status (Ok given) status = status_after_some given.feedback status
item_status (Err error) status = Aborting

abbrev pub answer_status : Answer → InvokerStatus → InvokerStatus
answer_status Pending status = status
answer_status (Ready None) status = status
answer_status (Ready (Some item)) status = item_status item status

-- how long a connection may be idle after a feedback, and after an answer
abbrev pub timeout_after : ServiceFeedback → ℕ → ℕ
timeout_after (Reconfigure timeout) now = timeout_given timeout now
timeout_after BeginTransaction now = now
timeout_after EndTransaction now = now

abbrev pub timeout_after_some : Option ServiceFeedback → ℕ → ℕ
timeout_after_some None now = now
timeout_after_some (Some feedback) now = timeout_after feedback now

abbrev pub answer_timeout : Answer → ℕ → ℕ
answer_timeout Pending now = now
answer_timeout (Ready None) now = now
answer_timeout (Ready (Some (Ok given))) now = timeout_after_some given.feedback now
answer_timeout (Ready (Some (Err error))) now = now
