-- What a client is sent of the replies to one of its requests, if all of them are in a transaction.
use Rattle.std.specs.Prelude.{◌≡◌, ◌≤◌, ◌⊎◌, ℕ, suc, true, List, [], ◌∷◌, length, map, slice_get, Some, None}
use Rattle.dns_base.specs.Msg.{ResourceRecord}
use Rattle.dns_events.specs.declared.event.Event.{Event}
use Rattle.dns_events.specs.declared.event.Output.{Output}
use Rattle.dns_events.specs.declared.event.Output.TheVariants.{Datagram, Frame}
use Rattle.dns_events.specs.declared.settings.Settings.{Settings}
use Rattle.dns_session.specs.Connections.{is_in_transaction}
use Rattle.dns_session.specs.Serving.{Serving}
use Rattle.dns_session.specs.Slate.{Slate, SlateRequest, Open}
use Rattle.dns_service.specs.Req.{Req}
use Rattle.dns_model.specs.Own.{own}
use Rattle.dns_model.specs.Sent.{sent, slate}
use Rattle.dns_core.specs.Trails.{on_wire, poll_of, reply_at}
use Rattle.dns_transfer.specs.Transfers.{TransferFits, bunched, status_behind, transfer, transfer_message, transfer_records}
use Rattle.dns_zone.specs.Owned.{ZoneState}

-- the octets of the messages among what is sent
abbrev pub octets_sent : List Output → List (List ℕ)
octets_sent [] = []
octets_sent (Frame client o ∷ outs) = o ∷ octets_sent outs
octets_sent (Datagram client o ∷ outs) = o ∷ octets_sent outs
octets_sent (out ∷ outs) = octets_sent outs

-- all of these stand among others, in order
abbrev pub AreAmong : List (List ℕ) → List (List ℕ) → Type 0
AreAmong [] others = Unit {0}
AreAmong (o ∷ os) [] = ⊥
AreAmong (o ∷ os) (other ∷ others) = ((other ≡ o) × AreAmong os others) ⊎ AreAmong (o ∷ os) others

-- request k of an open connection was polled so often, holds no reply, and nothing waits in the queue
pub record IsWritten (s : Slate) (k : ℕ) (r : SlateRequest) (polls : ℕ) : Type 0 where
  pub phase : s.phase ≡ Open
  pub request : slice_get s.requests k ≡ Some r
  pub polled : polls ≤ r.polls
  pub free : r.held ≡ None
  pub empty : s.queue ≡ []

module _ (answers : Serving) where
  -- these are the replies to the first polls of request k, each in a transaction
  pub record AreReplies (k : ℕ) (r : SlateRequest) (replies : List (List ℕ)) : Type 0 where
    pub each : (n : ℕ) (o : List ℕ) → slice_get replies n ≡ Some o → reply_at answers (poll_of k r n) ≡ Some o
    pub inside : (n : ℕ) (o : List ℕ) → slice_get replies n ≡ Some o
        → is_in_transaction (status_behind (answers.answer r.request) (suc n)) ≡ true

-- then all of them were sent, in order
abbrev pub TransactionsLoseNothing : Type 0
TransactionsLoseNothing = (answers : Serving) (settings : Settings) (c k : ℕ) (es : List Event) (r : SlateRequest)
    (replies : List (List ℕ)) → IsWritten (slate answers settings c es) k r (length replies) → AreReplies answers k r replies
    → AreAmong replies (octets_sent (sent answers settings (own c es)))

-- ---- transfers

-- the replies of a transfer to a request, as they are sent
abbrev pub transfer_octets : ZoneState → Req (Unit {0}) → List (List ℕ)
transfer_octets z r = map (λ (b : List ResourceRecord). on_wire r.transport (transfer_message r.octets b)) (bunched (transfer_records z))

-- if a request is answered by a transfer whose replies fit, all of these were sent, in order
abbrev pub TransfersAreSentWhole : Type 0
TransfersAreSentWhole = (answers : Serving) (settings : Settings) (c k : ℕ) (es : List Event) (r : SlateRequest) (z : ZoneState)
    → IsWritten (slate answers settings c es) k r (length (bunched (transfer_records z)))
    → answers.answer r.request ≡ transfer z r.request.octets → TransferFits (bunched (transfer_records z)) r.request.octets
    → AreAmong (transfer_octets z r.request) (octets_sent (sent answers settings (own c es)))
