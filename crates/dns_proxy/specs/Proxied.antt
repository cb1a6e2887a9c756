-- What a proxy sends its clients: to each what its exchange sends over a service that gives what its lookup was answered.
use Rattle.std.specs.Prelude.{ℕ, List, [], ◌∷◌, ◌++◌, false, Option, None, if◌then◌else◌, Result}
use Rattle.dns_events.specs.Config.{Dgram, Stream, default_connection, default_stream}
use Rattle.dns_events.specs.declared.event.Event.{Event}
use Rattle.dns_events.specs.declared.event.EventKind.{EventKind}
use Rattle.dns_events.specs.declared.event.EventKind.TheVariants as Kind
use Rattle.dns_events.specs.declared.event.Output.{Output}
use Rattle.dns_service.specs.Answer.{Item}
use Rattle.dns_service.specs.declared.service.Polled.TheVariants.{Pending, Ready}
use Rattle.dns_session.specs.After.{sent_after}
use Rattle.dns_session.specs.Datagrams.{asks_nothing}
use Rattle.dns_session.specs.Frames.{framed}
use Rattle.dns_session.specs.Serving.{serving}
use Rattle.dns_session.specs.Slate.{Conf, fresh}
use Rattle.dns_route.specs.Relays.{SentAnswer}
use Rattle.dns_route.specs.declared.send_request.SendError.{SendError}
use Rattle.dns_lookup.specs.declared.lookup_event.LookupEvent.{LookupEvent}
use Rattle.dns_lookup.specs.declared.lookup_event.LookupOutcome.{LookupOutcome}
use Rattle.dns_lookup.specs.declared.lookup_event.UpstreamConfig.{UpstreamConfig}
use Rattle.dns_lookup.specs.Lookups.{Progress, Subject, answer_among, lookup_outcomes, lookup_step, progress}
use Rattle.dns_lookup.specs.Stages.{due_at}
use Rattle.dns_proxy.specs.declared.query_event.ClientMessage.{ClientMessage}
use Rattle.dns_proxy.specs.declared.query_event.ClientTransport.{ClientTransport}
use Rattle.dns_proxy.specs.declared.query_event.ClientTransport.TheVariants.{Datagram, Connection}
use Rattle.dns_proxy.specs.Coming.{message_of, request_of}
use Rattle.dns_proxy.specs.Fronts.{Fronting}

-- ---- what is asked

-- a client's message for which an upstream is asked a message under an identifier, what stood before it then, and the events since
pub record Asked : Type 0 where
  pub front : Fronting
  pub dgram : Dgram
  pub came : ClientMessage
  pub upstream : UpstreamConfig
  pub message : List ℕ
  pub id : ℕ
  pub events : List LookupEvent

abbrev pub subject : Asked → Subject
subject a = record { upstream = a.upstream; message = a.message; id = a.id; at = a.came.at }

abbrev pub with_event : Asked → LookupEvent → Asked
with_event a e = record a { events = a.events ++ e ∷ [] }

-- how far its lookup came, and what an event after the others leads to
abbrev pub came_to : Asked → Progress
came_to a = progress (subject a) a.events

abbrev pub outcome_after : Asked → LookupEvent → LookupOutcome
outcome_after a e = (lookup_step (subject a) (came_to a) e).1

-- what its lookup was answered, if it was
abbrev pub answer_of : Asked → SentAnswer
answer_of a = answer_among (lookup_outcomes (subject a) a.events)

-- when a tick of it is due
abbrev pub due_of : Asked → Option ℕ
due_of a = due_at (subject a) (came_to a)

-- ---- what a client is sent

-- the configurations of an exchange: a connection may be idle for so long
abbrev pub idle_for : ClientTransport → Stream
idle_for Datagram = default_stream
idle_for (Connection idle_timeout) = record default_stream { connection_config = record default_connection { idle_timeout = idle_timeout } }

abbrev pub running : ClientTransport → Dgram → Conf
running t dgram = record { dgram = dgram; stream = idle_for t; over = false }

-- the events of an exchange: the datagram, and one turn of its request; or a connection, over which the message comes, one turn, and what
-- is queued then is written (RFC 7766, section 6.2.1.1: each message of a connection is answered by itself)
abbrev pub event_of : ClientMessage → EventKind → Event
event_of c kind = record { at = c.at; secs = c.secs; client = c.client; kind = kind }

abbrev pub exchange_events : ClientTransport → ClientMessage → List Event
exchange_events Datagram c = event_of c (Kind.Datagram c.addr c.octets) ∷ event_of c (Kind.Turn 0) ∷ []
exchange_events (Connection idle_timeout) c =
    event_of c (Kind.Offer c.addr)
    ∷ event_of c (Kind.Piece (framed c.octets))
    ∷ event_of c (Kind.Turn 0)
    ∷ event_of c (Kind.Write 0)
    ∷ []

-- the message that an upstream is asked for one of a client, if one is: it makes a request, for which it is asked
abbrev pub asked_for : Fronting → Dgram → ClientMessage → Option (List ℕ)
asked_for f dgram c = if asks_nothing (message_of c) then None else f.asks (request_of dgram c)

-- what is sent for a message in its exchange over a service that gives this item for it
abbrev pub sent_by : ClientTransport → Fronting → Dgram → ClientMessage → Item → List Output
sent_by t f dgram c i = sent_after (serving (f.over i) f.hint) (fresh (running t dgram)) (exchange_events t c)

abbrev pub sent_over : Fronting → Dgram → ClientMessage → Item → List Output
sent_over f dgram c i = sent_by c.transport f dgram c i

module _ (given : List ℕ → Result (List ℕ) SendError → Item) where
  -- what is sent for one for which an upstream is asked, by what came of it
  abbrev pub sent_for : Fronting → Dgram → ClientMessage → SentAnswer → List Output
  sent_for f dgram c Pending = []
  sent_for f dgram c (Ready r) = sent_over f dgram c (given (message_of c) r)

  abbrev pub sent : Asked → List Output
  sent a = sent_for a.front a.dgram a.came (answer_of a)
