-- What each reply that is sent has to do with the message that it answers (RFC 1035, sections 4.1.1 and 4.2.1).
use Rattle.std.specs.Prelude.{◌≡◌, ℕ, ◌≤◌, List, ◌∷◌, ◌++◌, length, true, if◌then◌else◌}
use Rattle.std.specs.List.{Contains}
use Rattle.dns_name.specs.declared.address.SocketAddr.{SocketAddr}
use Rattle.dns_base.specs.Header.{header_of}
use Rattle.dns_base.specs.Msg.{Msg}
use Rattle.dns_base.specs.Wire.{wire}
use Rattle.dns_service.specs.Req.{Req}
use Rattle.dns_service.specs.Transport.{hint_of, limit}
use Rattle.dns_events.specs.declared.event.Event.{Event}
use Rattle.dns_events.specs.declared.event.EventKind.TheVariants.{Datagram as Is_datagram}
use Rattle.dns_events.specs.declared.event.Output.{Output}
use Rattle.dns_events.specs.declared.event.Output.TheVariants.{Datagram, Frame, Closed, TurnedAway}
use Rattle.dns_session.specs.Datagrams.{cut_datagram}
use Rattle.dns_session.specs.Frames.{frames, framed}
use Rattle.dns_session.specs.Requests.{request_of_datagram}
use Rattle.dns_session.specs.Serving.{Serving}
use Rattle.dns_core.specs.ByClient.{IsPrefix}
use Rattle.dns_core.specs.Out.{is_new}
use Rattle.dns_core.specs.Sent.{conf, slate}
use Rattle.dns_events.specs.declared.settings.Settings.{Settings}

-- a message answers one of these octets: it carries its identifier, and QR
abbrev pub Responds : List ℕ → Msg → Type 0
Responds query m = (m.header.id ≡ (header_of query).id) × (m.header.qr ≡ true)

module _ (answers : Serving) where
  -- how many octets the datagrams that answer a datagram may take: as the wrapped service leaves it, and for a response, which
  -- it isn't asked, as it came
  abbrev pub datagram_limit : Req (Unit {0}) → ℕ
  datagram_limit r = if (header_of r.octets).qr then limit (hint_of r.transport) else limit (answers.hint r)

  module _ (settings : Settings) (es : List Event) where
    -- octets that a client is sent answer the datagram by which it began, under the configuration that was in force then
    pub record AnswersDatagram (c : ℕ) (o : List ℕ) : Type 0 where
      pub before : List Event
      pub event : Event
      pub behind : List Event
      pub addr : SocketAddr
      pub asks : List ℕ
      pub message : Msg
      pub place : es ≡ before ++ event ∷ behind
      pub client : event.client ≡ c
      pub begun : is_new answers settings before event ≡ true
      pub kind : event.kind ≡ Is_datagram addr asks
      pub is : o ≡ wire message
      pub responds : Responds (cut_datagram asks) message
      pub fits : length o ≤ datagram_limit (request_of_datagram (conf settings before).dgram addr event.at event.secs (cut_datagram asks))

    -- a frame that a client is sent answers one of the frames that it sent before
    pub record AnswersFrame (c : ℕ) (o : List ℕ) : Type 0 where
      pub before : List Event
      pub asks : List ℕ
      pub message : Msg
      pub front : IsPrefix before es
      pub asked : Contains (frames (slate answers settings c before).received) asks
      pub is : o ≡ framed (wire message)
      pub responds : Responds asks message

    abbrev pub IsReply : Output → Type 0
    IsReply (Datagram c o) = AnswersDatagram c o
    IsReply (Frame c o) = AnswersFrame c o
    IsReply (Closed c why) = Unit {0}
    IsReply (TurnedAway c accepted) = Unit {0}
