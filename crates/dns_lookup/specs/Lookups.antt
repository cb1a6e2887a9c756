-- The lookup of a message at an upstream: it is sent in datagrams, and again over a connection if the first answer is truncated
-- (RFC 1035, section 4.2; RFC 2181, section 9; RFC 7766, section 5).
use Rattle.std.specs.Prelude.{◌≡◌, ℕ, max, List, [], ◌∷◌, ◌++◌, Bool, true, false, ◌&&◌, if◌then◌else◌, nat_eq, Option, Some, None, Result, Ok, Err}
use Rattle.dns_name.specs.declared.address.SocketAddr.{SocketAddr}
use Rattle.dns_base.specs.Header.{header_of}
use Rattle.dns_events.specs.Config.{in_range}
use Rattle.dns_layers.specs.Cookies.{same_address}
use Rattle.dns_route.specs.Relays.{SentAnswer}
use Rattle.dns_route.specs.declared.send_request.SendError.{SendError}
use Rattle.dns_route.specs.declared.send_request.SendError.TheVariants.{Timeout}
use Rattle.dns_service.specs.declared.service.Polled.TheVariants as Poll
use Rattle.dns_forward.specs.Asked.{Inquiry, outcome}
use Rattle.dns_forward.specs.Askings.{Hears}
use Rattle.dns_forward.specs.Matching.{with_id}
use Rattle.dns_forward.specs.declared.asking.Asking.{Asking}
use Rattle.dns_forward.specs.declared.asking_event.AskingEvent.{AskingEvent}
use Rattle.dns_forward.specs.declared.asking_event.AskingEvent.TheVariants as Asking_event
use Rattle.dns_forward.specs.declared.asking_event.AskingOutcome.{AskingOutcome}
use Rattle.dns_forward.specs.declared.asking_event.AskingOutcome.TheVariants.{OfArrival, OfTick}
use Rattle.dns_forward.specs.declared.asking_event.Ticked.TheVariants as Tick_leads
use Rattle.dns_lookup.specs.declared.lookup_event.UpstreamConfig.{UpstreamConfig}
use Rattle.dns_lookup.specs.declared.lookup_event.LookupEvent.{LookupEvent}
use Rattle.dns_lookup.specs.declared.lookup_event.LookupEvent.TheVariants.{Datagram, Frame, Lost, Tick}
use Rattle.dns_lookup.specs.declared.lookup_event.LookupOutcome.{LookupOutcome}
use Rattle.dns_lookup.specs.declared.lookup_event.LookupOutcome.TheVariants.{Nothing, Send, Connect, Answer}

-- what is looked up: a message, at an upstream, under an identifier, from a moment on
pub record Subject : Type 0 where
  pub upstream : UpstreamConfig
  pub message : List ℕ
  pub id : ℕ
  pub at : ℕ

-- the octets that the upstream is sent
abbrev pub question : Subject → List ℕ
question s = with_id s.id s.message

-- the asking in datagrams, and that over a connection, which is sent once
abbrev pub by_datagrams : Subject → Inquiry
by_datagrams s = record {
  message = s.message;
  id = s.id;
  tries = in_range 1 8 s.upstream.tries;
  timeout = max s.upstream.timeout 1;
  at = s.at;
}

abbrev pub by_connection : Subject → ℕ → Inquiry
by_connection s at = record { message = s.message; id = s.id; tries = in_range 1 8 1; timeout = max s.upstream.timeout 1; at = at }

abbrev pub same_socket : SocketAddr → SocketAddr → Bool
same_socket a b = same_address a.ip b.ip && nat_eq a.port b.port

-- what the asking in datagrams hears of an event: a datagram from elsewhere than the upstream is nothing to it
abbrev pub heard_datagram : SocketAddr → LookupEvent → Option AskingEvent
heard_datagram upstream (Datagram from at o) = if same_socket from upstream then Some (Asking_event.Arrived at o) else None
heard_datagram upstream (Tick at) = Some (Asking_event.Tick at)
heard_datagram upstream (Frame at o) = None
heard_datagram upstream Lost = None

-- what the asking over a connection hears of an event
abbrev pub heard_frame : LookupEvent → Option AskingEvent
heard_frame (Frame at o) = Some (Asking_event.Arrived at o)
heard_frame (Tick at) = Some (Asking_event.Tick at)
heard_frame (Datagram from at o) = None
heard_frame Lost = None

abbrev pub HearsWhere : Option AskingEvent → Asking → Asking → Option AskingOutcome → Type 0
HearsWhere None old new None = new ≡ old
HearsWhere None old new (Some o) = ⊥
HearsWhere (Some x) old new None = ⊥
HearsWhere (Some x) old new (Some o) = Hears old new x o

-- the moment of an event
abbrev pub moment : LookupEvent → ℕ
moment (Datagram from at o) = at
moment (Frame at o) = at
moment (Tick at) = at
moment Lost = 0

-- how far a lookup came: an answer in datagrams is waited for, and the asking heard these events; a truncated answer came at a
-- moment, and another is waited for over a connection, whose asking heard these events; or it has ended
pub data Progress : Type 0 where
  InDatagrams : List AskingEvent → Progress
  OverConnection : List ℕ → ℕ → List AskingEvent → Progress
  Over : Progress

-- how far it comes, and what that leads to
abbrev pub Led : Type 0
Led = Progress × LookupOutcome

-- an answer in datagrams is the answer unless it is truncated
abbrev pub by_answer : Subject → ℕ → List ℕ → Led
by_answer s at m = if (header_of m).tc then (OverConnection m at [], Connect (question s)) else (Over, Answer (Ok m))

abbrev pub by_datagram : Subject → ℕ → List AskingEvent → AskingOutcome → Led
by_datagram s at es (OfArrival None) = (InDatagrams es, Nothing)
by_datagram s at es (OfArrival (Some m)) = by_answer s at m
by_datagram s at es (OfTick Tick_leads.Nothing) = (InDatagrams es, Nothing)
by_datagram s at es (OfTick Tick_leads.Send) = (InDatagrams es, Send (question s))
by_datagram s at es (OfTick Tick_leads.GaveUp) = (Over, Answer (Err Timeout))

-- if none comes over a connection, the truncated answer is the answer
abbrev pub by_frame : List ℕ → ℕ → List AskingEvent → AskingOutcome → Led
by_frame m at es (OfArrival None) = (OverConnection m at es, Nothing)
by_frame m at es (OfArrival (Some o)) = (Over, Answer (Ok o))
by_frame m at es (OfTick Tick_leads.Nothing) = (OverConnection m at es, Nothing)
by_frame m at es (OfTick Tick_leads.Send) = (OverConnection m at es, Nothing)
by_frame m at es (OfTick Tick_leads.GaveUp) = (Over, Answer (Ok m))

-- an event that an asking hears after others, or doesn't
abbrev pub datagram_heard : Subject → ℕ → List AskingEvent → Option AskingEvent → Led
datagram_heard s at es None = (InDatagrams es, Nothing)
datagram_heard s at es (Some x) = by_datagram s at (es ++ x ∷ []) (outcome (by_datagrams s) es x)

abbrev pub frame_heard : Subject → List ℕ → ℕ → List AskingEvent → Option AskingEvent → Led
frame_heard s m at es None = (OverConnection m at es, Nothing)
frame_heard s m at es (Some x) = by_frame m at (es ++ x ∷ []) (outcome (by_connection s at) es x)

-- the connection could not be opened, or was closed
abbrev pub is_lost : LookupEvent → Bool
is_lost (Datagram from at o) = false
is_lost (Frame at o) = false
is_lost (Tick at) = false
is_lost Lost = true

-- what an event does to a lookup
abbrev pub lookup_step : Subject → Progress → LookupEvent → Led
lookup_step s (InDatagrams es) e = datagram_heard s (moment e) es (heard_datagram s.upstream.addr e)
lookup_step s (OverConnection m at es) e = if is_lost e then (Over, Answer (Ok m)) else frame_heard s m at es (heard_frame e)
lookup_step s Over e = (Over, Nothing)

-- how far a lookup comes by events, and what each leads to
abbrev pub progress_from : Subject → Progress → List LookupEvent → Progress
progress_from s p [] = p
progress_from s p (e ∷ es) = progress_from s (lookup_step s p e).0 es

abbrev pub outcomes_from : Subject → Progress → List LookupEvent → List LookupOutcome
outcomes_from s p [] = []
outcomes_from s p (e ∷ es) = (lookup_step s p e).1 ∷ outcomes_from s (lookup_step s p e).0 es

-- how far a lookup comes by all its events, and what each leads to
abbrev pub progress : Subject → List LookupEvent → Progress
progress s es = progress_from s (InDatagrams []) es

abbrev pub lookup_outcomes : Subject → List LookupEvent → List LookupOutcome
lookup_outcomes s es = outcomes_from s (InDatagrams []) es

-- the answer that outcomes have, if one has
abbrev pub answer_among : List LookupOutcome → SentAnswer
answer_among [] = Poll.Pending
answer_among (Answer r ∷ os) = Poll.Ready r
answer_among (Nothing ∷ os) = answer_among os
answer_among (Send o ∷ os) = answer_among os
answer_among (Connect o ∷ os) = answer_among os
