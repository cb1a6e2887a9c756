-- What a client's events do to its slate, in which an Offer stands for one that is admitted. The answers are those of the
-- wrapped service, by request and poll. If the client's state doesn't say otherwise, an event changes nothing.
use Rattle.dns_session.specs.Serving.{Serving}
use Rattle.std.specs.Prelude.{[], slice_get, if◌then◌else◌}
use Rattle.dns_events.specs.declared.event.Event.{Event}
use Rattle.dns_events.specs.declared.event.EventKind.{EventKind}
use Rattle.dns_events.specs.declared.event.EventKind.TheVariants.{Datagram, Turn, Offer, Piece, End, Fault, Close, Write, Tick, Release, Reconfigure, Shutdown}
use Rattle.dns_events.specs.declared.event.Why.{Why}
use Rattle.dns_events.specs.declared.event.Why.TheVariants.{Ended, Fault as By_fault, Commanded, Shutdown as By_shutdown}
use Rattle.dns_session.specs.Slate.{Slate, Effect, Phase, Unused, Exchange, Open, Flushing, Closed, conf_rule, with_conf}
use Rattle.dns_session.specs.Datagrams.{datagram}
use Rattle.dns_session.specs.Connections.{opened, reconfigured, piece, write, tick, close, wind_up, flush, released}
use Rattle.dns_session.specs.Turns.{exchange_turn, turn}

-- a client begins by a datagram or an offer that comes before a Shutdown
abbrev pub unused_rule : Event → EventKind → Slate → Effect
unused_rule e (Datagram addr o) s = if s.conf.over then (s, []) else datagram e.client addr e.at e.secs o s
unused_rule e (Offer addr) s = if s.conf.over then (s, []) else (opened e.client addr e.at s, [])
unused_rule e _ s = (s, [])

abbrev pub exchange_rule : Serving → EventKind → Slate → Effect
exchange_rule answers (Turn k) s = exchange_turn answers k (slice_get s.requests k) s
exchange_rule answers _ s = (s, [])

abbrev pub open_rule : Serving → Event → EventKind → Slate → Effect
open_rule answers e (Piece o) s = piece e.at e.secs o s
open_rule answers e (Turn k) s = (turn answers e.at k (slice_get s.requests k) s, [])
open_rule answers e (Write took) s = write e.at took s.queue s
open_rule answers e Tick s = tick e.at s
open_rule answers e End s = close Ended s
open_rule answers e Fault s = close By_fault s
open_rule answers e Close s = wind_up Commanded s.queue s
open_rule answers e (Reconfigure dgram stream) s = (reconfigured stream.connection_config s, [])
open_rule answers e Shutdown s = wind_up By_shutdown s.queue s
open_rule answers e _ s = (s, [])

abbrev pub flushing_rule : Why → EventKind → Slate → Effect
flushing_rule why (Write took) s = flush why took s.queue s
flushing_rule why Fault s = close By_fault s
flushing_rule why _ s = (s, [])

abbrev pub closed_rule : EventKind → Slate → Effect
closed_rule Release s = (released s, [])
closed_rule _ s = (s, [])

abbrev pub in_phase : Serving → Event → Phase → Slate → Effect
in_phase answers e Unused s = unused_rule e e.kind s
in_phase answers e Exchange s = exchange_rule answers e.kind s
in_phase answers e Open s = open_rule answers e e.kind s
in_phase answers e (Flushing why) s = flushing_rule why e.kind s
in_phase answers e Closed s = closed_rule e.kind s

-- an event that all clients hear sets the configurations that the slate shows, whatever its state
abbrev pub rule : Serving → Event → Slate → Effect
rule answers e s = in_phase answers e s.phase (with_conf (conf_rule e.kind s.conf) s)
