-- A connection: it is opened, takes the frames of its octets as requests, writes its queue, and may be idle for some time. It is
-- closed, at once or once its queue was written (RFC 7766).
use Rattle.std.specs.Prelude.{ℕ, ◌+◌, ◌∷◌, ◌++◌, List, [], length, drop, nat_lt, if◌then◌else◌, Bool, true, not, ◌&&◌}
use Rattle.std.specs.List.{list_any}
use Rattle.dns_name.specs.declared.address.SocketAddr.{SocketAddr}
use Rattle.dns_base.specs.Header.{header_of}
use Rattle.dns_base.specs.Wire.{wire}
use Rattle.dns_framing.specs.Config.{Connection}
use Rattle.dns_framing.specs.ErrorReply.{error_reply}
use Rattle.dns_events.specs.declared.event.Output.TheVariants.{Frame, Closed as Closed_output}
use Rattle.dns_events.specs.declared.event.Why.{Why}
use Rattle.dns_events.specs.declared.event.Why.TheVariants.{Short, Idle, WriteTimeout}
pub use Rattle.dns_framing.specs.Transactions.{is_in_transaction}
use Rattle.dns_session.specs.Budget.{Spending, allows, spend}
use Rattle.dns_session.specs.Frames.{frames, framed}
use Rattle.dns_session.specs.Slate.{Slate, SlateRequest, Effect, Open, Flushing, Closed}
use Rattle.dns_session.specs.Requests.{header_size, most_requests, request_of_frame, unpolled}
use Rattle.dns_session.specs.Timers.{is_expired}

-- a connection is opened: it takes the configuration of now and the queue's bound, and its timer starts
abbrev pub opened : ℕ → SocketAddr → ℕ → Slate → Slate
opened client addr at s = record s {
  client = client;
  addr = addr;
  phase = Open;
  connection = s.conf.stream.connection_config;
  bound = s.conf.stream.connection_config.max_queued_responses;
  reset_at = at;
}

-- another configuration holds from now on; the queue's bound stays, and so do the mark and the number spent
abbrev pub reconfigured : Connection → Slate → Slate
reconfigured connection s = record s { connection = connection }

-- a closed connection keeps nothing but its number
abbrev pub close : Why → Slate → Effect
close why s = (record s { phase = Closed; received = []; taken = 0; requests = []; queue = [] }, Closed_output s.client why ∷ [])

-- one that is to be closed keeps its queue, if something waits in it
abbrev pub wind_up : Why → List (List ℕ) → Slate → Effect
wind_up why [] s = close why s
wind_up why (m ∷ ms) s = (record s { phase = Flushing why; received = []; taken = 0; requests = [] }, [])

-- what the connection may queue, and what it spent
abbrev pub spending : Slate → Spending
spending s = record { allowed = s.connection.response_budget; window = s.connection.budget_window; mark = s.mark; spent = s.spent }

-- there is room for a frame: the queue is shorter than its bound, and the budget allows a reply more at this moment
abbrev pub room : ℕ → Slate → Bool
room at s = nat_lt (length s.queue) s.bound && allows at (spending s)

-- a frame that is queued is spent
abbrev pub append_frame : ℕ → List ℕ → Slate → Slate
append_frame at m s =
    let after = spend at (spending s) in
    record s { queue = s.queue ++ m ∷ []; mark = after.mark; spent = after.spent }

-- a frame that no request asked for is queued if there is room, and else dropped
abbrev pub enqueue_or_drop : ℕ → List ℕ → Slate → Slate
enqueue_or_drop at m s = if room at s then append_frame at m s else s

-- a request is made of a frame, unless most of them were made
abbrev pub take_request : ℕ → ℕ → List ℕ → Slate → Slate
take_request at secs f s =
    if nat_lt (length s.requests) most_requests
    then record s { requests = s.requests ++ unpolled (request_of_frame s.connection.idle_timeout s.addr at secs f) ∷ [] }
    else s

-- a frame resets the timer; a response makes no request, and is answered with FORMERR if there is room
abbrev pub take_frame : ℕ → ℕ → List ℕ → Slate → Slate
take_frame at secs f s =
    let t = record s { taken = s.taken + 1; reset_at = at } in
    if (header_of f).qr then enqueue_or_drop at (framed (wire (error_reply f 1))) t else take_request at secs f t

-- the frames are taken in order, up to one that is shorter than a header
abbrev pub take_frames : ℕ → ℕ → List (List ℕ) → Slate → Effect
take_frames at secs [] s = (s, [])
take_frames at secs (f ∷ fs) s =
    if nat_lt (length f) header_size then close Short s
    else take_frames at secs fs (take_frame at secs f s)

-- the new frames are those of all octets, past the frames taken
abbrev pub piece : ℕ → ℕ → List ℕ → Slate → Effect
piece at secs o s = take_frames at secs (drop s.taken (frames (s.received ++ o))) (record s { received = s.received ++ o })

-- a write took longer than it may
abbrev pub took_too_long : ℕ → Slate → Bool
took_too_long took s = nat_lt s.connection.response_write_timeout took

-- the front frame is written; an emptied queue resets the timer
abbrev pub written : ℕ → List ℕ → List (List ℕ) → Slate → Effect
written at m [] s = (record s { queue = []; reset_at = at }, Frame s.client m ∷ [])
written at m (n ∷ ms) s = (record s { queue = n ∷ ms }, Frame s.client m ∷ [])

abbrev pub write : ℕ → ℕ → List (List ℕ) → Slate → Effect
write at took [] s = (s, [])
write at took (m ∷ ms) s = if took_too_long took s then close WriteTimeout s else written at m ms s

-- the last frame is followed by the close that it was waited for
abbrev pub flushed : Why → List ℕ → List (List ℕ) → Slate → Effect
flushed why m [] s = ((close why s).0, Frame s.client m ∷ (close why s).1)
flushed why m (n ∷ ms) s = (record s { queue = n ∷ ms }, Frame s.client m ∷ [])

abbrev pub flush : Why → ℕ → List (List ℕ) → Slate → Effect
flush why took [] s = (s, [])
flush why took (m ∷ ms) s = if took_too_long took s then close WriteTimeout s else flushed why m ms s

-- a request that isn't done is in a transaction
abbrev pub in_transaction : SlateRequest → Bool
in_transaction r = not r.done && is_in_transaction r.status

-- a connection was idle for too long, and no transaction holds it open
abbrev pub tick : ℕ → Slate → Effect
tick at s = if is_expired s.reset_at s.connection.idle_timeout at && not (list_any in_transaction s.requests) then close Idle s else (s, [])

-- the slot is given back
abbrev pub released : Slate → Slate
released s = record s { freed = true }
