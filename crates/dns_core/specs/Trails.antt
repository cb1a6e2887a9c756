-- Which replies a client was sent, which wait in its queue, and which were dropped: of each, to which poll of which request it is.
-- Lists go from the oldest to the newest.
use Rattle.std.specs.Prelude.{◌≡◌, ℕ, ◌-◌, ◌<◌, ◌==◌, ◌⊎◌, List, [], ◌∷◌, ◌++◌, length, filter, take, drop, replicate, slice_get, if◌then◌else◌, Bool, true, false, not, ◌&&◌, is_some, Option, Some, None, option_map, All}
use Rattle.dns_base.specs.Header.{header_of}
use Rattle.dns_base.specs.Msg.{Msg}
use Rattle.dns_base.specs.Wire.{wire}
use Rattle.dns_service.specs.Cut.{cut}
use Rattle.dns_service.specs.ErrorReply.{error_reply}
use Rattle.dns_service.specs.Req.{Req}
use Rattle.dns_service.specs.Transport.{limit}
use Rattle.dns_events.specs.declared.event.Event.{Event}
use Rattle.dns_events.specs.declared.event.EventKind.{EventKind}
use Rattle.dns_events.specs.declared.event.EventKind.TheVariants.{Turn}
use Rattle.dns_events.specs.declared.event.Output.{Output}
use Rattle.dns_events.specs.declared.event.Output.TheVariants.{Datagram, Frame}
use Rattle.dns_service.specs.declared.message.TransportSpecificContext.{TransportSpecificContext}
use Rattle.dns_service.specs.declared.message.TransportSpecificContext.TheVariants.{Udp, NonUdp}
use Rattle.dns_session.specs.Connections.{is_in_transaction, room}
use Rattle.dns_session.specs.Frames.{framed}
use Rattle.dns_session.specs.Rule.{rule}
use Rattle.dns_session.specs.Serving.{Serving}
use Rattle.dns_session.specs.Slate.{Slate, SlateRequest, Phase, Open, fresh}
use Rattle.dns_session.specs.Turns.{answered, sent_for}
use Rattle.dns_core.specs.ReplyTo.{Responds}
use Rattle.dns_core.specs.Settings.{opening}
use Rattle.dns_events.specs.declared.settings.Settings.{Settings}

-- the poll that a reply comes from: the number of a request, the request, and the number of its poll
pub record Origin : Type 0 where
  pub request : ℕ
  pub asked : Req (Unit {0})
  pub poll : ℕ

-- the replies that went and that wait, of which those that refuse a response are to no request, and the replies that were dropped
pub record Trail : Type 0 where
  pub went : List (Option Origin)
  pub waiting : List (Option Origin)
  pub dropped : List Origin

abbrev pub no_trail : Trail
no_trail = record { went = []; waiting = []; dropped = [] }

-- the replies of a trail: those that went, and then those that wait
abbrev pub in_order : Trail → List (Option Origin)
in_order t = t.went ++ t.waiting

-- poll n of a request
abbrev pub poll_of : ℕ → SlateRequest → ℕ → Origin
poll_of k r n = record { request = k; asked = r.request; poll = n }

-- the poll whose reply a turn is to queue: the next one, or the last one if its reply is held
abbrev pub origin : ℕ → SlateRequest → Origin
origin k r = poll_of k r (if is_some r.held then r.polls - 1 else r.polls)

abbrev pub origin_at : EventKind → Slate → Option Origin
origin_at (Turn k) s = option_map (λ r. origin k r) (slice_get s.requests k)
origin_at _ s = None

abbrev pub is_frame : Output → Bool
is_frame (Frame client octets) = true
is_frame _ = false

abbrev pub is_datagram_sent : Output → Bool
is_datagram_sent (Datagram client octets) = true
is_datagram_sent _ = false

-- the messages among what is sent
abbrev pub messages_sent : List Output → List Output
messages_sent [] = []
messages_sent (Frame client o ∷ outs) = Frame client o ∷ messages_sent outs
messages_sent (Datagram client o ∷ outs) = Datagram client o ∷ messages_sent outs
messages_sent (out ∷ outs) = messages_sent outs

abbrev pub is_open : Phase → Bool
is_open Open = true
is_open _ = false

-- a message refuses a response: it is FORMERR (RFC 1035, section 4.1.1) to octets with QR set, cut to a limit in a datagram, and
-- after its length in a frame
abbrev pub Refuses : Output → Type 0
Refuses (Datagram client o) = (response : List ℕ) × (hint : Option ℕ) × ((header_of response).qr ≡ true)
    × (o ≡ wire (cut (limit hint) (error_reply response 1)))
Refuses (Frame client o) = (response : List ℕ) × ((header_of response).qr ≡ true) × (o ≡ framed (wire (error_reply response 1)))
Refuses _ = ⊥

-- a message as it is sent: on a connection after its length
abbrev pub on_wire : TransportSpecificContext → Msg → List ℕ
on_wire (Udp hint) m = wire m
on_wire (NonUdp timeout) m = framed (wire m)

-- octets that are sent are a message that answers the request that it comes from: it carries that one's identifier, and QR
pub record AnswersRequest (m : Origin) (o : List ℕ) : Type 0 where
  pub message : Msg
  pub is : o ≡ on_wire m.asked.transport message
  pub responds : Responds m.asked.octets message

-- what is sent answers the request that it comes from; what comes from none refuses a response
abbrev pub IsAnswer : Option Origin → Output → Type 0
IsAnswer None out = Refuses out
IsAnswer (Some m) (Datagram client o) = AnswersRequest m o
IsAnswer (Some m) (Frame client o) = AnswersRequest m o
IsAnswer (Some m) _ = ⊥

-- the messages answer the requests that they come from, one for one
abbrev pub AreAnswers : List (Option Origin) → List Output → Type 0
AreAnswers [] [] = Unit {0}
AreAnswers [] (out ∷ outs) = ⊥
AreAnswers (m ∷ ms) [] = ⊥
AreAnswers (m ∷ ms) (out ∷ outs) = IsAnswer m out × AreAnswers ms outs

-- where the frames of a queue come from, after an event: its first frames waited before it, and come from where they did; those
-- after them joined with the event
abbrev pub queue_origins : List (List ℕ) → List (Option Origin) → Option Origin → List (Option Origin)
queue_origins [] waited new = []
queue_origins (frame ∷ queue) [] new = new ∷ queue_origins queue [] new
queue_origins (frame ∷ queue) (m ∷ waited) new = m ∷ queue_origins queue waited new

module _ (answers : Serving) where
  -- a poll at a moment gives a reply that finds no room, outside of a transaction
  abbrev pub drops : ℕ → SlateRequest → Slate → Bool
  drops at r s =
      let a = answers.answer r.request r.polls in
      not r.done && (not (is_some r.held) && (is_some (sent_for answers r.request a)
      && (not (room at s) && not (is_in_transaction (answered a r).status))))

  abbrev pub dropped_of : ℕ → ℕ → Option SlateRequest → Slate → List Origin
  dropped_of at k None s = []
  dropped_of at k (Some r) s = if drops at r s then origin k r ∷ [] else []

  abbrev pub dropped_by : ℕ → EventKind → Slate → List Origin
  dropped_by at (Turn k) s = if is_open s.phase then dropped_of at k (slice_get s.requests k) s else []
  dropped_by at _ s = []

  -- an event at a slate: frames go from the front of the queue, and others, which come from its poll, join at the back; datagrams go
  -- at once
  abbrev pub trailed : Event → Slate → Trail → Trail
  trailed e s t =
      let after = (rule answers e s).0 in
      let outs = (rule answers e s).1 in
      let gone = length (filter is_frame outs) in
      record {
        went = t.went ++ (take gone t.waiting ++ replicate (length (filter is_datagram_sent outs)) (origin_at e.kind s));
        waiting = queue_origins after.queue (drop gone t.waiting) (origin_at e.kind s);
        dropped = t.dropped ++ dropped_by e.at e.kind s;
      }

  abbrev pub trail_after : Slate → Trail → List Event → Trail
  trail_after s t [] = t
  trail_after s t (e ∷ es) = trail_after (rule answers e s).0 (trailed e s t) es

  -- the trail of a client that hears these events
  abbrev pub trail_of : Settings → List Event → Trail
  trail_of settings es = trail_after (fresh (opening settings)) no_trail es

  -- the reply to a poll
  abbrev pub reply_at : Origin → Option (List ℕ)
  reply_at m = option_map (on_wire m.asked.transport) (sent_for answers m.asked (answers.answer m.asked m.poll))

  -- a message is that reply
  abbrev pub Replies : Origin → Output → Type 0
  Replies m (Datagram client o) = reply_at m ≡ Some o
  Replies m (Frame client o) = reply_at m ≡ Some o
  Replies m _ = ⊥

  -- a message is the reply to the poll that it comes from; one that comes from none refuses a response
  abbrev pub IsFrom : Option Origin → Output → Type 0
  IsFrom None out = Refuses out
  IsFrom (Some m) out = Replies m out

  -- the messages come from these polls, one for one
  abbrev pub AreFrom : List (Option Origin) → List Output → Type 0
  AreFrom [] [] = Unit {0}
  AreFrom [] (out ∷ outs) = ⊥
  AreFrom (m ∷ ms) [] = ⊥
  AreFrom (m ∷ ms) (out ∷ outs) = IsFrom m out × AreFrom ms outs

  -- the frames of a queue come from these polls, one for one, whoever is sent them
  abbrev pub AreQueued : List (Option Origin) → List (List ℕ) → Type 0
  AreQueued [] [] = Unit {0}
  AreQueued [] (o ∷ os) = ⊥
  AreQueued (m ∷ ms) [] = ⊥
  AreQueued (m ∷ ms) (o ∷ os) = ((client : ℕ) → IsFrom m (Frame client o)) × AreQueued ms os

  -- the reply to a poll of a request was sent, waits in the queue, is the one that the request holds, or was dropped
  abbrev pub WasSent : Trail → Origin → Type 0
  WasSent t o = (i : ℕ) × (slice_get t.went i ≡ Some (Some o))

  abbrev pub Waits : Trail → Origin → Type 0
  Waits t o = (i : ℕ) × (slice_get t.waiting i ≡ Some (Some o))

  abbrev pub IsHeld : ℕ → SlateRequest → Origin → Type 0
  IsHeld k r o = (r.held ≡ reply_at o) × (o ≡ origin k r)

  abbrev pub WasDropped : Trail → Origin → Type 0
  WasDropped t o = (i : ℕ) × (slice_get t.dropped i ≡ Some o)

  abbrev pub IsSomewhere : ℕ → SlateRequest → Trail → Origin → Type 0
  IsSomewhere k r t o = WasSent t o ⊎ (Waits t o ⊎ (IsHeld k r o ⊎ WasDropped t o))

-- the polls of one request among those that replies come from
abbrev pub polls_of : ℕ → List (Option Origin) → List ℕ
polls_of k [] = []
polls_of k (None ∷ ms) = polls_of k ms
polls_of k (Some m ∷ ms) = if m.request == k then m.poll ∷ polls_of k ms else polls_of k ms

abbrev pub IsRising : List ℕ → Type 0
IsRising [] = Unit {0}
IsRising (n ∷ ns) = All (λ m. n < m) ns × IsRising ns
