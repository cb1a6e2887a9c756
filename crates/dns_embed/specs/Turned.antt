-- What a connection is given of a request is what the rules for one client say of a turn of it. The answers are those of the wrapped
-- service.
use Rattle.std.specs.Prelude.{◌≡◌, ℕ, ◌+◌, List, slice_set, if◌then◌else◌, Option, Some, None, option_map, Ok, Err}
use Rattle.circular_buffer.specs.Buffer.{buffer}
use Rattle.dns_base.specs.Wire.{wire}
use Rattle.dns_service.specs.Answer.{Item}
use Rattle.dns_service.specs.Invokers.{reply_in}
use Rattle.dns_service.specs.declared.invoker.Enqueued.{Enqueued}
use Rattle.dns_service.specs.declared.invoker.Enqueued.TheVariants.{Queued, Held, Dropped}
use Rattle.dns_service.specs.declared.invoker.InvokerStatus.{InvokerStatus}
use Rattle.dns_service.specs.declared.service.Polled.TheVariants.{Ready}
use Rattle.dns_service.specs.declared.service.ServiceFeedback.{ServiceFeedback}
use Rattle.dns_framing.specs.Frames.{framed}
use Rattle.dns_framing.specs.Invoker.{finds_room}
use Rattle.dns_framing.specs.declared.invoker.ConnectionInvoker.{ConnectionInvoker}
use Rattle.dns_session.specs.Connections.{spending}
use Rattle.dns_session.specs.Serving.{Serving}
use Rattle.dns_session.specs.Slate.{Slate, SlateRequest}
use Rattle.dns_session.specs.Turns.{ends, turn_request}
use Rattle.dns_embed.specs.declared.connection.Connection.{Connection}
use Rattle.dns_embed.specs.declared.transactions.Heard.{Heard}
use Rattle.dns_embed.specs.declared.transactions.Heard.TheVariants.{Nothing, Feedback, Failure}
use Rattle.dns_embed.specs.Transactions.{enqueued_as, giving, invoker_hearing}

-- what is heard of an item
abbrev pub heard_in : Option ServiceFeedback → Heard
heard_in None = Nothing
heard_in (Some feedback) = Feedback feedback

abbrev pub heard_of : Item → Heard
heard_of (Ok given) = heard_in given.feedback
heard_of (Err error) = Failure

-- the frame of its reply to octets that are a message
abbrev pub frame_for : List ℕ → Item → Option (List ℕ)
frame_for o item = option_map (λ m. framed (wire m)) (reply_in o item)

-- a connection stands for a slate: queue, bound, budget and idle timeout are the same
pub record ShowsIn (i : ConnectionInvoker) (s : Slate) : Type 0 where
  pub queue : i.queue ≡ buffer s.queue s.bound
  pub budget : i.budget ≡ spending s
  pub idle_timeout : i.idle_timeout ≡ s.connection.idle_timeout

-- a reply that is held stays with its request
abbrev pub kept_frame : Option Enqueued → Option (List ℕ) → Option (List ℕ) → Option (List ℕ)
kept_frame (Some Held) frame before = frame
kept_frame (Some Queued) frame before = before
kept_frame (Some Dropped) frame before = before
kept_frame None frame before = before

-- a request past a poll that gave an item, so far and with its reply if that is held
abbrev pub past_item : Item → InvokerStatus → Option (List ℕ) → SlateRequest → SlateRequest
past_item item status held r = record r { polls = r.polls + 1; status = status; held = held; done = ends (Ready (Some item)) }

-- the slate with a request, and with what an invoker has of its connection
abbrev pub shown_by : ℕ → SlateRequest → ConnectionInvoker → Slate → Slate
shown_by k r i s = record s {
  connection = record s.connection { idle_timeout = i.idle_timeout };
  requests = slice_set s.requests k r;
  queue = i.queue.items;
  mark = i.budget.mark;
  spent = i.budget.spent;
}

-- what is given of a request's item turns the slate as its rules say, and the connection stands for that one then
abbrev pub GivesAsTurned : Type 0
GivesAsTurned = (answers : Serving) (at k : ℕ) (c : Connection) (s : Slate) (r : SlateRequest) (item : Item)
    → ShowsIn c.invoker s → r.held ≡ None → answers.answer r.request r.polls ≡ Ready (Some item)
    → let frame = frame_for r.request.octets item in
    let d = giving at r.status (heard_of item) frame c in
    let held = kept_frame (enqueued_as frame (invoker_hearing at r.status (heard_of item) c)) frame r.held in
    (turn_request answers at k r.held r s ≡ shown_by k (past_item item d.invoker.status held r) d.invoker s)
    × ShowsIn d.invoker (turn_request answers at k r.held r s)

-- a reply that was held is given again, and nothing is heard: it is queued if there is room, and else all stays
abbrev pub GivesHeldAsTurned : Type 0
GivesHeldAsTurned = (answers : Serving) (at k : ℕ) (c : Connection) (s : Slate) (r : SlateRequest) (m : List ℕ)
    → ShowsIn c.invoker s → r.held ≡ Some m
    → let i = invoker_hearing at r.status Nothing c in
    let d = giving at r.status Nothing (Some m) c in
    (turn_request answers at k r.held r s ≡ (if finds_room i then shown_by k (record r { held = None }) d.invoker s else s))
    × ShowsIn d.invoker (turn_request answers at k r.held r s)
