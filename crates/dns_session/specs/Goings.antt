-- What becomes of what is kept of a client by its events, at each slate that it stands for. The answers are those of the wrapped
-- service.
use Rattle.std.specs.Prelude.{◌≡◌, ℕ, ◌<◌, ◌≤◌, List, [], ◌∷◌, ◌++◌, length, drop, nat_lt, if◌then◌else◌, Bool, true, false, Option, Some, None}
use Rattle.dns_name.specs.declared.address.SocketAddr.{SocketAddr}
use Rattle.dns_base.specs.Header.{header_of}
use Rattle.dns_base.specs.Wire.{wire}
use Rattle.dns_framing.specs.Answer.{Answer}
use Rattle.dns_framing.specs.Config.{Dgram}
use Rattle.dns_framing.specs.ErrorReply.{error_reply}
use Rattle.dns_framing.specs.Req.{Req}
use Rattle.dns_events.specs.declared.event.Event.{Event}
use Rattle.dns_events.specs.declared.event.EventKind.{EventKind}
use Rattle.dns_events.specs.declared.event.EventKind.TheVariants.{Piece, Reconfigure, Turn, Write}
use Rattle.dns_events.specs.declared.event.Output.{Output}
use Rattle.dns_events.specs.declared.event.Output.TheVariants.{Frame, Closed as Closed_output}
use Rattle.dns_events.specs.declared.event.Why.{Why}
use Rattle.dns_session.specs.Frames.{framed, frames}
use Rattle.dns_session.specs.Serving.{Serving}
use Rattle.dns_session.specs.Slate.{Slate, SlateRequest, Effect, IsUnused}
use Rattle.dns_session.specs.Datagrams.{at_once, datagrams_to, exchange}
use Rattle.dns_session.specs.Rule.{rule}
use Rattle.dns_session.specs.Spent.{is_spent}
use Rattle.dns_session.specs.Stands.{IsClosed, IsExchange, IsFlushing, IsOpen, KeepsAll, StandsIn}
use Rattle.dns_session.specs.Requests.{unpolled, most_requests, request_of_frame}
use Rattle.dns_session.specs.Connections.{take_frames}
use Rattle.dns_session.specs.Invoker.{offered}
use Rattle.dns_session.specs.declared.kept.KeptRequest.{KeptRequest}
use Rattle.dns_session.specs.declared.client.State.{State}
use Rattle.dns_session.specs.declared.client.State.TheVariants.{Open as Is_open, Flushing as Is_flushing, Closed as Is_closed}
use Rattle.dns_session.specs.declared.connection.OpenConnection.{OpenConnection}
use Rattle.dns_session.specs.declared.flushing.FlushingConnection.{FlushingConnection}
use Rattle.dns_session.specs.declared.outcome.Outcome.{Outcome}
use Rattle.dns_session.specs.declared.outcome.Outcome.TheVariants.{Nothing, Written, WrittenLast, WindsUp, Ends}
use Rattle.dns_framing.specs.Polls.{PolledRequest}

-- an open connection takes memory by octets that came and by turns alone
abbrev pub takes_memory : EventKind → Bool
takes_memory (Piece o) = true
takes_memory (Turn k) = true
takes_memory _ = false

-- what it keeps is changed by these, by writes and by configurations alone
abbrev pub changes_kept : EventKind → Bool
changes_kept (Write took) = true
changes_kept (Reconfigure dgram stream) = true
changes_kept kind = takes_memory kind

-- a request that is done is kept no more
abbrev pub unless_done : {Q : Type 0} → Bool → Q → Option Q
unless_done done q = if done then None else Some q

-- what an open connection keeps once it only writes what waits, and is closed then
abbrev pub flushing_for : {W R F : Type 0} → Why → OpenConnection W R F → FlushingConnection
flushing_for why c = record { queue = c.invoker.queue; write_timeout = c.write_timeout; why = why }

abbrev pub wound_up : {W R F : Type 0} → Why → State W R F → State W R F
wound_up why (Is_open c) = Is_flushing (flushing_for why c)
wound_up why state = state

-- what a client of this number is sent for an outcome, and its state after it
abbrev pub outputs_of : ℕ → Outcome → List Output
outputs_of client Nothing = []
outputs_of client (Written m) = Frame client m ∷ []
outputs_of client (WrittenLast m why) = Frame client m ∷ Closed_output client why ∷ []
outputs_of client (WindsUp why) = []
outputs_of client (Ends why) = Closed_output client why ∷ []

abbrev pub state_behind : {W R F : Type 0} → State W R F → Outcome → State W R F
state_behind state Nothing = state
state_behind state (Written m) = state
state_behind state (WrittenLast m why) = Is_closed false
state_behind state (WindsUp why) = wound_up why state
state_behind state (Ends why) = Is_closed false

-- what a connection that only writes what waits is after an outcome, and what its step does: at each of its slates, what is told is
-- sent
abbrev pub IsLeft : ℕ → FlushingConnection → Outcome → Slate → Type 0
IsLeft number c Nothing s = IsFlushing number c s
IsLeft number c (Written m) s = IsFlushing number c s
IsLeft number c (WrittenLast m why) s = IsClosed number false s
IsLeft number c (WindsUp why) s = IsFlushing number c s
IsLeft number c (Ends why) s = IsClosed number false s

abbrev pub LeadsOn : FlushingConnection → FlushingConnection → Outcome → (Slate → Effect) → Type 0
LeadsOn old new outcome after = (number : ℕ) (s : Slate) → IsFlushing number old s
    → (outputs_of number outcome ≡ (after s).1) × IsLeft number new outcome (after s).0

-- a response is refused at a moment
abbrev pub refusing : {W R F : Type 0} → ℕ → OpenConnection W R F → List ℕ → OpenConnection W R F
refusing at c o = record c { invoker = offered (record c.invoker { at = at }) (framed (wire (error_reply o 1))) }

module _ {R F : Type 0} (answer : PolledRequest F R → ℕ → Answer) (answers : Serving) where
  -- at every slate of the exchange, the outputs are those that are told, and it is the exchange of the slate after
  abbrev pub Exchanges : ℕ → Option (KeptRequest F R) → Option (KeptRequest F R) → List Output → (Slate → Effect) → Type 0
  Exchanges number old new outs after = (s : Slate) → IsExchange answer answers number old s
      → (outs ≡ (after s).1) × IsExchange answer answers number new (after s).0

  -- whatever the number of an exchange: what is kept of it, and the octets that its client is sent. It begins by a datagram that
  -- was cut, and goes on by a Turn of its one request
  abbrev pub BeginsAs : SocketAddr → ℕ → ℕ → Dgram → List ℕ → Option (KeptRequest F R) → Option (List ℕ) → Type 0
  BeginsAs addr at secs dgram o new octets = (number : ℕ) (s : Slate) → IsUnused s → s.conf.dgram ≡ dgram
      → (datagrams_to number octets ≡ at_once number s.conf.dgram o)
      × IsExchange answer answers number new (exchange number addr at secs o s)

  abbrev pub TurnsAs : Option (KeptRequest F R) → Option (KeptRequest F R) → Option (List ℕ) → Type 0
  TurnsAs old new octets = (number : ℕ) (e : Event) → e.kind ≡ Turn 0
      → Exchanges number old new (datagrams_to number octets) (rule answers e)

  -- nothing changes any more at the slate of an exchange of which this is kept
  abbrev pub SpentWith : Bool → Option (KeptRequest F R) → Type 0
  SpentWith over kept = (number : ℕ) (s : Slate) → IsExchange answer answers number kept s → over ≡ is_spent s

  module _ {W : Type 0} where
    -- at every slate that the old state stands for, the outputs are those that are told, and the new one stands for the slate after
    abbrev pub StateGoes : ℕ → State W R F → State W R F → List Output → (Slate → Effect) → Type 0
    StateGoes number old new outs after = (s : Slate) → StandsIn answer answers number old s
        → (outs ≡ (after s).1) × StandsIn answer answers number new (after s).0

    -- at every slate that an open connection stands for, its outcome gives the outputs that are told and the slate
    -- after
    abbrev pub Leads : OpenConnection W R F → OpenConnection W R F → Outcome → (Slate → Effect) → Type 0
    Leads old new outcome after = (number : ℕ) (s : Slate) → IsOpen answer answers number old s
        → (outputs_of number outcome ≡ (after s).1) × StandsIn answer answers number (state_behind (Is_open new) outcome) (after s).0

    -- a request is made, unless most of them were made
    pub record Asks (old new : OpenConnection W R F) (r : Req (Unit {0})) : Type 0 where
      pub others : new ≡ record old { unfinished = new.unfinished }
      pub made : (rs : List SlateRequest) → KeepsAll answer answers old.transactions old.unfinished rs
          → KeepsAll answer answers new.transactions new.unfinished (if nat_lt (length rs) most_requests then rs ++ unpolled r ∷ [] else rs)

    -- a message is taken: a response is refused, and a query asked
    pub record TakesMessage (at secs : ℕ) (old new : OpenConnection W R F) (o : List ℕ) : Type 0 where
      pub response : (header_of o).qr ≡ true → new ≡ refusing at old o
      pub query : (header_of o).qr ≡ false → Asks old new (request_of_frame old.invoker.idle_timeout old.addr at secs o)

    -- one frame is taken, and what is left to be taken, at some slate of the connection, is all that was
    pub record TakesFrame (at secs : ℕ) (old new : OpenConnection W R F) : Type 0 where
      pub less : length new.framer < length old.framer
      pub goes : (number : ℕ) (s : Slate) → IsOpen answer answers number old s
          → (t : Slate) × IsOpen answer answers number new t
          × (take_frames at secs (frames new.framer) t ≡ take_frames at secs (frames old.framer) s)

    -- a frame is taken from octets as they came, that many of them with its length; nothing is kept before them
    pub record TakesLent (at secs : ℕ) (old new : OpenConnection W R F) (o : List ℕ) (n : ℕ) : Type 0 where
      pub within : n ≤ length o
      pub empty : new.framer ≡ []
      pub takes : TakesFrame at secs (record old { framer = o }) (record new { framer = drop n o })
