-- A connection: the frames of its octets in order, each once (RFC 1035, section 4.2.2; RFC 7766, section 8), and its queue of
-- replies. Each is a part of what the rule of one client (dns_session) does.
use Rattle.std.specs.Prelude.{ℕ, ◌≡◌, ◌<◌, ◌≤◌, ◌++◌, ◌==◌, ◌&&◌, [], ◌∷◌, Bool, true, false, not, List, length, drop, slice_get, nat_lt, if◌then◌else◌, Option, Some, None}
use Rattle.circular_buffer.specs.Buffer.{buffer}
use Rattle.dns_base.specs.Header.{header_of}
use Rattle.dns_base.specs.Wire.{wire}
use Rattle.dns_replies.specs.ErrorReply.{error_reply}
use Rattle.dns_framing.specs.Budget.{rebudgeted, unspent}
use Rattle.dns_framing.specs.Frames.{framed, frames}
use Rattle.dns_framing.specs.Invoker.{finds_room, offered}
use Rattle.dns_framing.specs.Timers.{deadline, is_expired, last_moment}
use Rattle.dns_service.specs.Config.{Connection as Config}
use Rattle.dns_service.specs.declared.invoker.InvokerStatus.TheVariants.{Normal}
use Rattle.dns_embed.specs.declared.connection.Connection.{Connection}
use Rattle.dns_embed.specs.declared.connection.Next.{Next}
use Rattle.dns_embed.specs.declared.connection.Next.TheVariants.{Waits, Query, NoRoom, Response, Short}
use Rattle.dns_embed.specs.declared.connection.Written.{Written}
use Rattle.dns_embed.specs.declared.connection.Written.TheVariants as Write

-- a connection of a configuration, of which nothing came yet
abbrev pub opened : ℕ → Config → Connection
opened at config = record {
  front = None;
  framer = [];
  timer = at;
  write_timeout = config.response_write_timeout;
  invoker = record {
    at = at;
    idle_timeout = config.idle_timeout;
    budget = unspent config;
    queue = buffer [] config.max_queued_responses;
    status = Normal;
    held = None;
  };
  transactions = 0;
  is_closing = false;
}

-- one that is to be closed keeps its queue, and nothing of what came
abbrev pub closing : Connection → Connection
closing c = record c { front = None; framer = []; transactions = 0; is_closing = true }

-- nothing else happens to it any more
abbrev pub unless_closing : Connection → Connection → Connection
unless_closing c d = if c.is_closing then c else d

abbrev pub in_front : Option (List ℕ) → List (List ℕ) → List (List ℕ)
in_front None fs = fs
in_front (Some f) fs = f ∷ fs

-- the frames that wait to be taken
abbrev pub waiting : Connection → List (List ℕ)
waiting c = in_front c.front (frames c.framer)

-- the octets of the stream that weren't taken, those of no whole frame too: the frame in front stands after its length
abbrev pub untaken_by : Option (List ℕ) → List ℕ → List ℕ
untaken_by None o = o
untaken_by (Some f) o = framed f ++ o

abbrev pub untaken : Connection → List ℕ
untaken c = untaken_by c.front c.framer

-- a connection works for an event at this moment
abbrev pub at_moment : ℕ → Connection → Connection
at_moment at c = record c { invoker = record c.invoker { at = at } }

-- a reply finds room at this moment
abbrev pub has_room : ℕ → Connection → Bool
has_room at c = not c.is_closing && finds_room (record c.invoker { at = at })

-- a frame is queued at this moment, if there is room
abbrev pub offering : ℕ → Connection → List ℕ → Connection
offering at c m = record c { invoker = offered (record c.invoker { at = at }) m }

-- a response is answered with FORMERR, and resets the timer
abbrev pub refusing : ℕ → Connection → List ℕ → Connection
refusing at c o = record (offering at c (framed (wire (error_reply o 1)))) { timer = at }

-- another configuration holds from now on; the queue's bound stays, and so do the mark and the number spent
abbrev pub configured : Config → Connection → Connection
configured config c = record c {
  write_timeout = config.response_write_timeout;
  invoker = record c.invoker { idle_timeout = config.idle_timeout; budget = rebudgeted config c.invoker.budget };
}

-- its timer may close a connection: no transaction holds it open, and it isn't to be closed anyway
abbrev pub is_timed : Connection → Bool
is_timed c = not c.is_closing && (c.transactions == 0)

-- the moment at which it was idle for too long (RFC 7766, section 6.2.3), and else the last one, which is none
abbrev pub deadline_of : ℕ → Connection → ℕ
deadline_of now c = if is_timed c then deadline c.timer c.invoker.idle_timeout now else last_moment

-- a connection was idle for too long at a moment
abbrev pub is_idle : ℕ → Connection → Bool
is_idle now c = is_timed c && is_expired c.timer c.invoker.idle_timeout now

-- all but the octets are as they were
pub record SameQueue (c d : Connection) : Type 0 where
  pub timer : d.timer ≡ c.timer
  pub write_timeout : d.write_timeout ≡ c.write_timeout
  pub invoker : d.invoker ≡ c.invoker
  pub transactions : d.transactions ≡ c.transactions
  pub is_closing : d.is_closing ≡ c.is_closing

-- the first frame is taken, and no octet after it
abbrev pub IsTaken : List ℕ → Connection → Connection → Type 0
IsTaken f c d = (waiting c ≡ f ∷ waiting d) × (untaken c ≡ framed f ++ untaken d)

-- no octet is taken
abbrev pub NoneTaken : Connection → Connection → Type 0
NoneTaken c d = (waiting d ≡ waiting c) × (untaken d ≡ untaken c)

-- there was no memory: no octet is taken, and all else but the moment is as it was
abbrev pub NothingDone : ℕ → Connection → Connection → Type 0
NothingDone at c d = NoneTaken c d × SameQueue (at_moment at c) (at_moment at d)

-- a query, or a response
abbrev pub IsMessage : Bool → List ℕ → Type 0
IsMessage qr f = (12 ≤ length f) × ((header_of f).qr ≡ qr)

-- the first that waits is taken, or none waits, or it stays if the buffer is too short
abbrev pub NextIs : ℕ → Connection → Connection → List ℕ → List ℕ → Next → Type 0
NextIs at c d before after Waits = (waiting c ≡ []) × NoneTaken c d × SameQueue c d × (after ≡ before)
NextIs at c d before after (Query n) = (f : List ℕ) × IsTaken f c d × IsMessage false f
    × (n ≡ length f) × (n ≤ length before) × (after ≡ f ++ drop n before) × SameQueue (record c { timer = at }) d
NextIs at c d before after (NoRoom n) = (f : List ℕ) × (fs : List (List ℕ)) × (waiting c ≡ f ∷ fs) × NoneTaken c d × IsMessage false f
    × (n ≡ length f) × (length before < n) × SameQueue c d × (after ≡ before)
NextIs at c d before after Response = (f : List ℕ) × IsTaken f c d × IsMessage true f × SameQueue (refusing at c f) d × (after ≡ before)
NextIs at c d before after Short = (f : List ℕ) × IsTaken f c d × (length f < 12) × SameQueue c d × (after ≡ before)

-- a frame less waits to be written
abbrev pub popped : Connection → Connection
popped c = record c { invoker = record c.invoker { queue = buffer (drop 1 c.invoker.queue.items) c.invoker.queue.capacity } }

-- an emptied queue resets the timer
abbrev pub timer_behind : ℕ → Connection → ℕ
timer_behind at c = if length c.invoker.queue.items == 0 then at else c.timer

-- the front frame was written, unless it took too long
abbrev pub WritesBy : Bool → ℕ → Connection → Connection → Written → Type 0
WritesBy true at c d w = (w ≡ Write.TimedOut) × (d ≡ popped c)
WritesBy false at c d w = (w ≡ Write.Frame) × (d ≡ record (popped c) { timer = timer_behind at (popped c) })

abbrev pub WritesFront : Option (List ℕ) → ℕ → ℕ → Connection → Connection → Written → Type 0
WritesFront None at took c d w = (w ≡ Write.Nothing) × (d ≡ popped c)
WritesFront (Some m) at took c d w = WritesBy (nat_lt c.write_timeout took) at c d w

abbrev pub WriteIs : ℕ → ℕ → Connection → Connection → Written → Type 0
WriteIs at took c d w = WritesFront (slice_get c.invoker.queue.items 0) at took c d w
