-- What one poll of a request does, and what a client is sent for it.
use Rattle.std.specs.Prelude.{ℕ, ◌+◌, List, [], ◌∷◌, slice_set, if◌then◌else◌, Bool, true, false, Option, Some, None, Ok, Err}
use Rattle.dns_base.specs.Msg.{Msg}
use Rattle.dns_base.specs.Wire.{wire}
use Rattle.dns_framing.specs.Answer.{Answer}
use Rattle.dns_framing.specs.Req.{Req}
use Rattle.dns_framing.specs.Polled.TheVariants.{Pending, Ready}
use Rattle.dns_events.specs.declared.event.Output.{Output}
use Rattle.dns_events.specs.declared.event.Output.TheVariants.{Datagram}
use Rattle.dns_framing.specs.Cut.{sized}
use Rattle.dns_framing.specs.ErrorReply.{error_reply}
use Rattle.dns_framing.specs.Errors.{rcode_of}
use Rattle.dns_framing.specs.Transport.{limit, limit_over}
use Rattle.dns_session.specs.Frames.{framed}
use Rattle.dns_session.specs.Heard.{answer_status, answer_timeout}
use Rattle.dns_session.specs.Serving.{Serving}
use Rattle.dns_session.specs.Slate.{Slate, Effect, SlateRequest}
use Rattle.dns_session.specs.Connections.{append_frame, is_in_transaction, room}

-- the end and an error item make a request done
abbrev pub ends : Answer → Bool
ends Pending = false
ends (Ready None) = true
ends (Ready (Some (Ok given))) = false
ends (Ready (Some (Err error))) = true

-- the message of a reply to octets that are a message, of at most n octets if that is limited; an error item is answered by
-- an error reply
abbrev pub reply_to : Option ℕ → List ℕ → Answer → Option Msg
reply_to n o Pending = None
reply_to n o (Ready None) = None
reply_to n o (Ready (Some (Ok given))) = given.response
reply_to n o (Ready (Some (Err error))) = Some (sized n (error_reply o (rcode_of error)))

abbrev pub with_request : ℕ → SlateRequest → Slate → Slate
with_request k r s = record s { requests = slice_set s.requests k r }

-- a request of an exchange after a poll: what an answer tells changes nothing
abbrev pub polled : Answer → SlateRequest → SlateRequest
polled a r = record r { polls = r.polls + 1; done = ends a }

-- an exchange is sent a reply at once
abbrev pub sent_at_once : ℕ → Option Msg → List Output
sent_at_once client None = []
sent_at_once client (Some m) = Datagram client (wire m) ∷ []

-- a request of a connection after a poll: an answer tells where a transaction begins and ends
abbrev pub answered : Answer → SlateRequest → SlateRequest
answered a r = record r { polls = r.polls + 1; status = answer_status a r.status; done = ends a }

-- a connection after a poll: an answer tells how long it may be idle
abbrev pub retimed : Answer → Slate → Slate
retimed a s = record s { connection = record s.connection { idle_timeout = answer_timeout a s.connection.idle_timeout } }

-- a frame of a request is queued if there is room; else it is held, in a transaction, and dropped outside of one
abbrev pub hold : List ℕ → SlateRequest → SlateRequest
hold m r = if is_in_transaction r.status then record r { held = Some m } else r

abbrev pub enqueue : ℕ → ℕ → List ℕ → SlateRequest → Slate → Slate
enqueue at k m r s = if room at s then append_frame at m (with_request k r s) else with_request k (hold m r) s

-- a reply stands after its length
abbrev pub queue_reply : ℕ → ℕ → Option Msg → SlateRequest → Slate → Slate
queue_reply at k None r s = with_request k r s
queue_reply at k (Some m) r s = enqueue at k (framed (wire m)) r s

-- a frame that was held is queued if there is room now, and else it is held on
abbrev pub queue_held : ℕ → ℕ → List ℕ → SlateRequest → Slate → Slate
queue_held at k m r s = if room at s then append_frame at m (with_request k (record r { held = None }) s) else s

module _ (answers : Serving) where
  -- how many octets a reply to a request may take, if that is limited
  abbrev pub limit_for : Req (Unit {0}) → Option ℕ
  limit_for r = limit_over r.transport (limit (answers.hint r))

  -- what is sent for the answer to a poll of a request
  abbrev pub sent_for : Req (Unit {0}) → Answer → Option Msg
  sent_for r a = reply_to (limit_for r) r.octets a

  -- one poll of an unfinished request of an exchange
  abbrev pub exchange_turn : ℕ → Option SlateRequest → Slate → Effect
  exchange_turn k None s = (s, [])
  exchange_turn k (Some r) s =
      if r.done then (s, [])
      else (
        with_request k (polled (answers.answer r.request r.polls) r) s,
        sent_at_once s.client
            (sent_for r.request (answers.answer r.request r.polls)),
      )

  -- one poll of a request of a connection, whose replies have no limit: what its answer tells is heard, and its reply is queued
  abbrev pub poll_request : ℕ → ℕ → SlateRequest → Slate → Slate
  poll_request at k r s =
      let a = answers.answer r.request r.polls in
      queue_reply at k (reply_to None r.request.octets a) (answered a r) (retimed a s)

  -- a request whose reply is held isn't polled
  abbrev pub turn_request : ℕ → ℕ → Option (List ℕ) → SlateRequest → Slate → Slate
  turn_request at k None r s = poll_request at k r s
  turn_request at k (Some m) r s = queue_held at k m r s

  -- the turn of a request that isn't done
  abbrev pub turn : ℕ → ℕ → Option SlateRequest → Slate → Slate
  turn at k None s = s
  turn at k (Some r) s = if r.done then s else turn_request at k r.held r s
