-- What a connection's noted events say of its seat and its link.
use Rattle.std.specs.Prelude.{◌≡◌, ◌≤◌, ◌⊎◌, ℕ, ◌+◌, List, [], ◌∷◌, ◌++◌, Option, Some, None}
use Rattle.dns_name.specs.declared.address.SocketAddr.{SocketAddr}
use Rattle.dns_events.specs.declared.look.Look.{Look}
use Rattle.dns_admission.specs.declared.call.Call.TheVariants.{Release}
use Rattle.dns_admission.specs.declared.call.Reply.TheVariants.{Left}
use Rattle.dns_book.specs.Gains.{Gained}
use Rattle.dns_book.specs.History.{entry}
use Rattle.dns_book.specs.declared.history.Known.{Known}
use Rattle.dns_io.specs.Traffic.{Traffic}
use Rattle.dns_events.specs.declared.event.Event.{Event}
use Rattle.dns_events.specs.declared.event.Why.{Why}
use Rattle.dns_events.specs.declared.event.Why.TheVariants.{Fault as ByFault, WriteTimeout}
use Rattle.dns_session.specs.Serving.{Serving}
use Rattle.dns_session.specs.Slate.{Slate, conf_of, fresh}
use Rattle.dns_session.specs.Connections.{opened}
use Rattle.dns_session.specs.Rule.{rule}
use Rattle.dns_session.specs.After.{slate_after, sent_after}
use Rattle.dns_recorder.specs.Clocks.{faults_in}
use Rattle.dns_recorder.specs.Woven.{IsWoven, AllOf, look_entries}
use Rattle.dns_stream_driver.specs.Closing.{closed_by}
use Rattle.dns_stream_driver.specs.Links.{pieces_in, AllFull, ticks_in, ends_in, frame_octets, IsFrontCut}
use Rattle.dns_stream_driver.specs.Rounds.{Rounds}

-- the slate of a connection that was offered at a moment, under what a look shows
abbrev pub began : ℕ → SocketAddr → ℕ → Look → Slate
began client addr at look = opened client addr at (fresh (conf_of look))

abbrev pub all_but_last : List Event → List Event
all_but_last [] = []
all_but_last (e ∷ []) = []
all_but_last (e ∷ f ∷ es) = e ∷ all_but_last (f ∷ es)

-- a part of one frame more was written only if a write failed or took too long
abbrev pub Extra : Option Why → List (List ℕ) → List ℕ → Type 0
Extra (Some ByFault) queue extra = IsFrontCut queue extra
Extra (Some WriteTimeout) queue extra = IsFrontCut queue extra
Extra _ queue extra = extra ≡ []

-- the last output of the last event closes the connection
pub record LastCloses (answers : Serving) (s : Slate) (events : List Event) (why : Why) : Type 0 where
  pub before : List Event
  pub event : Event
  pub is : events ≡ before ++ event ∷ []
  pub closes : closed_by (rule answers event (slate_after answers s before)).1 ≡ Some why

abbrev pub LastOf : Serving → Slate → List Event → Option Why → Type 0
LastOf answers s events None = Unit {0}
LastOf answers s events (Some why) = LastCloses answers s events why

-- The events from n to n', noted after the Offer from slate s on, and why the last output closes the connection, if it does. The seat
-- made looks alone, from k to k'; the link's traffic is t before and t' after.
pub record Story (answers : Serving) (s : Slate) (client : ℕ) (first : Look) (why : Option Why) (n n' : List Event) (k k' : Known)
    (t t' : Traffic) : Type 0 where
  pub events : List Event
  pub looks : List Look
  pub extra : List ℕ
  pub noted : n' ≡ n ++ events
  pub mine : AllOf client events
  -- order
  pub calls : Gained k (look_entries k.name looks) k'
  pub woven : IsWoven first looks events
  pub rounds : Rounds answers 0 s events
  pub closed : closed_by (sent_after answers s events) ≡ why
  pub last : LastOf answers s events why
  -- input
  pub came : t'.came ≡ t.came ++ pieces_in events
  pub full : AllFull events
  pub ticks : t'.empty_reads ≡ t.empty_reads + ticks_in events
  pub ends : t'.ends ≡ t.ends + ends_in events
  pub one_fault : faults_in events ≤ 1
  -- output
  pub went : t'.went ≡ t.went ++ (frame_octets (sent_after answers s events) ++ extra)
  pub cut : Extra why (slate_after answers s (all_but_last events)).queue extra

-- Memory ran out. Each noted event may come where it stands, so no Offer is one. The noted pieces are a front of what was read.
-- What was written are the frames of the noted events, and then perhaps a part of one frame more. That stood first in the queue
-- after these events. Or it did before the last of them, if that one is of a write that failed or took too long.
pub record Broken (answers : Serving) (s : Slate) (client : ℕ) (n n' : List Event) (t t' : Traffic) : Type 0 where
  pub events : List Event
  pub unread : List ℕ
  pub extra : List ℕ
  pub noted : n' ≡ n ++ events
  pub mine : AllOf client events
  pub rounds : Rounds answers 0 s events
  pub came : t'.came ≡ t.came ++ (pieces_in events ++ unread)
  pub went : t'.went ≡ t.went ++ (frame_octets (sent_after answers s events) ++ extra)
  pub cut : IsFrontCut (slate_after answers s events).queue extra
      ⊎ Extra (closed_by (sent_after answers s events)) (slate_after answers s (all_but_last events)).queue extra

-- a seat made looks alone; looks, and then a release
pub record LooksAlone (k k' : Known) : Type 0 where
  pub looks : List Look
  pub calls : Gained k (look_entries k.name looks) k'
  pub name : k'.name ≡ k.name

pub record LooksAndRelease (k k' : Known) : Type 0 where
  pub looks : List Look
  pub left : ℕ
  pub calls : Gained k (look_entries k.name looks ++ entry k.name Release (Left left) ∷ []) k'
  pub name : k'.name ≡ k.name
