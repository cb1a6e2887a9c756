-- Who makes the calls of one client's connection: what it has of the client, and by which call it follows each event that the client
-- hears. A frame is sent once it was written, and the connection is closed if a call says so. A call that takes, queues and writes
-- nothing, as without memory, is no event. The answers are those of the wrapped service, by request and poll.
use Rattle.std.specs.Prelude.{◌≡◌, ℕ, ◌⊎◌, ◌==◌, List, [], ◌∷◌, ◌++◌, length, nat_lt, slice_get, slice_set, MatchBool, if◌then◌else◌, false, Option, Some, None}
use Rattle.dns_name.specs.declared.address.SocketAddr.{SocketAddr}
use Rattle.dns_events.specs.declared.event.Event.{Event}
use Rattle.dns_events.specs.declared.event.EventKind.{EventKind}
use Rattle.dns_events.specs.declared.event.EventKind.TheVariants.{Offer, Piece, Turn, Write, Tick, End, Fault, Close, Shutdown, Reconfigure}
use Rattle.dns_events.specs.declared.event.Output.{Output}
use Rattle.dns_events.specs.declared.event.Output.TheVariants.{Frame, Closed as Closed_output}
use Rattle.dns_events.specs.declared.event.Why.{Why}
use Rattle.dns_events.specs.declared.event.Why.TheVariants.{Ended, Fault as By_fault, Short as By_short, Idle, WriteTimeout, Commanded, Shutdown as By_shutdown}
use Rattle.dns_events.specs.declared.settings.Settings.{Settings}
use Rattle.dns_service.specs.Answer.{Answer, Item}
use Rattle.dns_service.specs.declared.invoker.Enqueued.{Enqueued}
use Rattle.dns_service.specs.declared.invoker.Enqueued.TheVariants.{Queued}
use Rattle.dns_service.specs.declared.invoker.InvokerStatus.TheVariants.{Normal}
use Rattle.dns_service.specs.declared.service.Polled.TheVariants.{Pending, Ready}
use Rattle.dns_service.specs.declared.service.ServiceFeedback.TheVariants.{EndTransaction}
use Rattle.dns_framing.specs.Frames.{framed}
use Rattle.dns_framing.specs.Transactions.{is_in_transaction}
use Rattle.dns_session.specs.After.{sent_after}
use Rattle.dns_session.specs.Requests.{most_requests, request_of_frame, unpolled}
use Rattle.dns_session.specs.Serving.{Serving}
use Rattle.dns_session.specs.Slate.{Phase, Open, Flushing, Closed, SlateRequest, fresh}
use Rattle.dns_session.specs.Turns.{answered}
use Rattle.dns_embed.specs.declared.connection.Connection.{Connection}
use Rattle.dns_embed.specs.declared.connection.Next.{Next}
use Rattle.dns_embed.specs.declared.connection.Next.TheVariants.{Query, Short}
use Rattle.dns_embed.specs.declared.connection.Written.{Written}
use Rattle.dns_embed.specs.declared.connection.Written.TheVariants as Written_as
use Rattle.dns_embed.specs.declared.transactions.Heard.TheVariants.{Nothing, Feedback}
use Rattle.dns_embed.specs.Connections.{NextIs, SameQueue, WriteIs, at_moment, closing, configured, is_idle, offering, opened, unless_closing, untaken, waiting}
use Rattle.dns_embed.specs.Transactions.{enqueued_of, giving, status_of}
use Rattle.dns_embed.specs.Turned.{frame_for, heard_of, kept_frame, past_item}

-- the client's number, address and phase, its connection, and its requests so far
pub record Caller : Type 0 where
  pub client : ℕ
  pub addr : SocketAddr
  pub phase : Phase
  pub connection : Connection
  pub requests : List SlateRequest

-- what it has after an event, and what it sent for it
abbrev pub Sending : Type 0
Sending = Caller × List Output

abbrev pub goes_on : Connection → Caller → Sending
goes_on d k = (record k { connection = d }, [])

-- the connection is closed, and no call of it is made any more
abbrev pub closed : Why → Caller → Sending
closed why k = (record k { phase = Closed; requests = [] }, Closed_output k.client why ∷ [])

-- ---- octets

-- those that were fed stand after those that weren't taken, and all else but the moment is as it was
abbrev pub IsFed : Connection → Connection → Type 0
IsFed c d = (o : List ℕ) × (untaken d ≡ untaken c ++ o) × SameQueue (at_moment 0 c) (at_moment 0 d)

-- a query is a request, unless most of them were made
abbrev pub asked : ℕ → ℕ → List ℕ → Caller → List SlateRequest
asked at secs f k =
    if nat_lt (length k.requests) most_requests
    then k.requests ++ unpolled (request_of_frame k.connection.invoker.idle_timeout k.addr at secs f) ∷ []
    else k.requests

abbrev pub took : Next → ℕ → ℕ → List ℕ → Connection → Caller → Sending
took (Query n) at secs f d k = (record k { connection = d; requests = asked at secs f k }, [])
took Short at secs f d k = closed By_short k
took _ at secs f d k = goes_on d k

-- the octets of a frame are a piece once `next` takes them
pub record Takes (at secs : ℕ) (o : List ℕ) (k : Caller) (x : Sending) : Type 0 where
  pub frame : List ℕ
  pub next : Next
  pub connection : Connection
  pub room : List ℕ
  pub buffer : List ℕ
  pub octets : o ≡ framed frame
  pub first : waiting k.connection ≡ frame ∷ waiting connection
  pub is : NextIs at k.connection connection room buffer next
  pub sending : x ≡ took next at secs frame connection k

-- ---- requests

abbrev pub turned : ℕ → SlateRequest → Connection → Caller → Sending
turned n r d k = (record k { connection = d; requests = slice_set k.requests n r }, [])

-- a transaction ends with its request
abbrev pub ending : ℕ → SlateRequest → Connection → Connection
ending at r c = if is_in_transaction r.status then unless_closing c (giving at r.status (Feedback EndTransaction) None c) else c

-- `give` is called with an item, or `offer` if nothing but a reply is in it, outside of a transaction
abbrev pub IsGiven : ℕ → SlateRequest → Item → Connection → Connection → Type 0
IsGiven at r item c d =
    (d ≡ unless_closing c (giving at r.status (heard_of item) (frame_for r.request.octets item) c))
    ⊎ ((m : List ℕ) × (frame_for r.request.octets item ≡ Some m) × (heard_of item ≡ Nothing) × (r.status ≡ Normal)
    × (d ≡ unless_closing c (offering at c m)))

-- the request past it: as far as `give` says, and with its reply if that is held
abbrev pub past_given : ℕ → SlateRequest → Item → Connection → SlateRequest
past_given at r item c =
    let frame = frame_for r.request.octets item in
    let enqueued = enqueued_of at r.status (heard_of item) frame c in
    past_item item (status_of at r.status (heard_of item) frame c) (kept_frame enqueued frame None) r

abbrev pub IsAnswered : ℕ → ℕ → Answer → SlateRequest → Caller → Sending → Type 0
IsAnswered at n Pending r k x = x ≡ turned n (answered Pending r) k.connection k
IsAnswered at n (Ready None) r k x = x ≡ turned n (answered (Ready None) r) (ending at r k.connection) k
IsAnswered at n (Ready (Some item)) r k x = (d : Connection) × IsGiven at r item k.connection d
    × (x ≡ turned n (past_given at r item k.connection) d k)

-- a reply that was held is given again, until it is queued
abbrev pub held_on : Option Enqueued → List ℕ → Option (List ℕ)
held_on (Some Queued) m = None
held_on _ m = Some m

abbrev pub given_again : ℕ → ℕ → List ℕ → SlateRequest → Caller → Sending
given_again at n m r k =
    turned n (record r { held = held_on (enqueued_of at r.status Nothing (Some m) k.connection) m })
    (unless_closing k.connection (giving at r.status Nothing (Some m) k.connection)) k

abbrev pub IsTurned : Serving → ℕ → ℕ → Option (List ℕ) → SlateRequest → Caller → Sending → Type 0
IsTurned answers at n None r k x = IsAnswered at n (answers.answer r.request r.polls) r k x
IsTurned answers at n (Some m) r k x = x ≡ given_again at n m r k

abbrev pub Turns : Serving → ℕ → ℕ → Option SlateRequest → Caller → Sending → Type 0
Turns answers at n None k x = x ≡ (k, [])
Turns answers at n (Some r) k x = MatchBool r.done (x ≡ (k, [])) (IsTurned answers at n r.held r k x)

-- ---- frames, and the end

abbrev pub wrote : Written → Option (List ℕ) → Connection → Caller → Sending
wrote Written_as.Frame (Some m) d k = (record k { connection = d }, Frame k.client m ∷ [])
wrote Written_as.TimedOut m d k = closed WriteTimeout k
wrote _ m d k = goes_on d k

-- after the last frame of one that is to be closed `front` says that it is closed
abbrev pub wrote_last : Why → Written → Option (List ℕ) → Connection → Caller → Sending
wrote_last why Written_as.Frame (Some m) d k =
    if length d.invoker.queue.items == 0 then ((closed why k).0, Frame k.client m ∷ (closed why k).1)
    else wrote Written_as.Frame (Some m) d k
wrote_last why w m d k = wrote w m d k

abbrev pub Writes : (Written → Option (List ℕ) → Connection → Caller → Sending) → ℕ → ℕ → Caller → Sending → Type 0
Writes sends at took k x = (d : Connection) × (w : Written) × WriteIs at took k.connection d w
    × (x ≡ sends w (slice_get k.connection.invoker.queue.items 0) d k)

abbrev pub ticked : ℕ → Caller → Sending
ticked at k = if is_idle at k.connection then closed Idle k else (k, [])

-- `close` closes it at once, or it is to be closed
abbrev pub wound_up : Why → Caller → Sending
wound_up why k =
    if length k.connection.invoker.queue.items == 0 then closed why k
    else (record k { phase = Flushing why; connection = closing k.connection; requests = [] }, [])

-- ---- a whole life

module _ (answers : Serving) where
  abbrev pub OpenCall : Event → EventKind → Caller → Sending → Type 0
  OpenCall e (Piece o) k x = Takes e.at e.secs o k x
  OpenCall e (Turn n) k x = Turns answers e.at n (slice_get k.requests n) k x
  OpenCall e (Write took) k x = Writes wrote e.at took k x
  OpenCall e Tick k x = x ≡ ticked e.at k
  OpenCall e End k x = x ≡ closed Ended k
  OpenCall e Fault k x = x ≡ closed By_fault k
  OpenCall e Close k x = x ≡ wound_up Commanded k
  OpenCall e Shutdown k x = x ≡ wound_up By_shutdown k
  OpenCall e (Reconfigure dgram stream) k x = x ≡ goes_on (unless_closing k.connection (configured stream.connection_config k.connection)) k
  OpenCall e _ k x = x ≡ (k, [])

  abbrev pub FlushingCall : Why → Event → EventKind → Caller → Sending → Type 0
  FlushingCall why e (Write took) k x = Writes (wrote_last why) e.at took k x
  FlushingCall why e Fault k x = x ≡ closed By_fault k
  FlushingCall why e _ k x = x ≡ (k, [])

  abbrev pub Call : Event → Phase → Caller → Sending → Type 0
  Call e Open k x = OpenCall e e.kind k x
  Call e (Flushing why) k x = FlushingCall why e e.kind k x
  Call e _ k x = x ≡ (k, [])

  -- event by event; before each of them octets may be fed, or calls made that are no event
  abbrev pub Sends : List Event → Caller → List Output → Type 0
  Sends [] k outs = outs ≡ []
  Sends (e ∷ es) k outs = (d : Connection) × (l : Caller) × (now : List Output) × (later : List Output) × IsFed k.connection d
      × Call e k.phase (record k { connection = d }) (l, now) × Sends es l later × (outs ≡ now ++ later)

-- of a client that was offered, by the settings of a server
abbrev pub beginning : ℕ → ℕ → SocketAddr → Settings → Caller
beginning at client addr settings = record {
  client = client;
  addr = addr;
  phase = Open;
  connection = opened at settings.stream.connection_config;
  requests = [];
}

-- whatever calls follow it, what is sent is what the rules for one client give for its offer and these events
abbrev pub SendsAsRuled : Type 0
SendsAsRuled = (answers : Serving) (settings : Settings) (at secs client : ℕ) (addr : SocketAddr) (es : List Event) (outs : List Output)
    → Sends answers es (beginning at client addr settings) outs
    → outs ≡ sent_after answers (fresh (record { dgram = settings.dgram; stream = settings.stream; over = false }))
    (record { at = at; secs = secs; client = client; kind = Offer addr } ∷ es)
