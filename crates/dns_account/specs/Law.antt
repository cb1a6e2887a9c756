-- THE LAW of a connection that was served, by what was noted and what its link's calls said.
use Rattle.std.specs.Prelude.{◌≡◌, ◌<◌, ◌⊎◌, ℕ, List, [], ◌∷◌, ◌++◌}
use Rattle.dns_name.specs.declared.address.SocketAddr.{SocketAddr}
use Rattle.dns_events.specs.declared.look.Look.{Look}
use Rattle.dns_events.specs.declared.event.Event.{Event}
use Rattle.dns_events.specs.declared.event.Why.{Why}
use Rattle.dns_events.specs.declared.event.Why.TheVariants.{Ended, Short}
use Rattle.dns_io.specs.Traffic.{Traffic}
use Rattle.dns_session.specs.Serving.{Serving}
use Rattle.dns_session.specs.After.{slate_after, sent_after}
use Rattle.dns_session.specs.Reasons.{HasShortFrame}
use Rattle.dns_recorder.specs.Woven.{AllOf}
use Rattle.dns_stream_driver.specs.Closing.{closed_by}
use Rattle.dns_stream_driver.specs.Endings.{offer, WhereClosed}
use Rattle.dns_stream_driver.specs.Links.{pieces_in, frame_octets, IsFrontCut}
use Rattle.dns_stream_driver.specs.Story.{began, all_but_last, Extra}
use Rattle.dns_stream_driver.specs.declared.connection.ConnectionEnd.{ConnectionEnd}
use Rattle.dns_stream_driver.specs.declared.connection.ConnectionEnd.TheVariants.{Closed, OutOfMemory}

-- From n to n' the client was offered, and then came events of this client alone (or of the whole server). Their pieces are the
-- octets that the link's reads took; if the connection was closed they are all of them. The octets that its writes handed over
-- are the frames that the rules for this client alone send for these events, in order. A part of one frame more may follow, the
-- first that waits.
pub record ByTheRules (answers : Serving) (end : ConnectionEnd) (client : ℕ) (addr : SocketAddr) (look : Look) (n n' : List Event)
    (t t' : Traffic) : Type 0 where
  pub at : ℕ
  pub secs : ℕ
  pub events : List Event
  pub unheard : List ℕ
  pub part : List ℕ
  pub noted : n' ≡ n ++ (offer client addr at secs ∷ events)
  pub mine : AllOf client events
  pub taken : t'.came ≡ t.came ++ (pieces_in events ++ unheard)
  pub all_heard : WhereClosed end (unheard ≡ [])
  pub handed : t'.went ≡ t.went ++ (frame_octets (sent_after answers (began client addr at look) events) ++ part)
  pub cut : IsFrontCut (slate_after answers (began client addr at look) events).queue part
      ⊎ Extra (closed_by (sent_after answers (began client addr at look) events))
      (slate_after answers (began client addr at look) (all_but_last events)).queue part

-- or memory ran out before the Offer, and nothing was read or written
abbrev pub KeptToTheRules : Serving → ConnectionEnd → ℕ → SocketAddr → Look → List Event → List Event → Traffic → Traffic → Type 0
KeptToTheRules answers end client addr look n n' t t' = ByTheRules answers end client addr look n n' t t' ⊎ ((n' ≡ n) × (t' ≡ t))

-- one of the frames of the octets that the link's reads took is shorter than a header
pub record TookShortFrame (t t' : Traffic) : Type 0 where
  pub octets : List ℕ
  pub taken : t'.came ≡ t.came ++ octets
  pub short : HasShortFrame octets

-- What the link's calls said of why the connection was closed. For the other reasons the noted events, the link's count of faults or the
-- seat show it.
abbrev pub SeenWhy : Why → Traffic → Traffic → Type 0
SeenWhy Ended t t' = t.ends < t'.ends
SeenWhy Short t t' = TookShortFrame t t'
SeenWhy _ t t' = Unit {0}

abbrev pub EndSeen : ConnectionEnd → Traffic → Traffic → Type 0
EndSeen (Closed why) t t' = SeenWhy why t t'
EndSeen OutOfMemory t t' = Unit {0}
