-- What the events of a trace send their client when they are served, against what its link was written.
use Rattle.std.specs.Prelude.{◌≡◌, ℕ, List, ◌++◌, filter, Ok, Some}
use Rattle.dns_session.specs.Serving.{Serving}
use Rattle.dns_core.specs.ByClient.{is_for}
use Rattle.dns_core.specs.Out.{out}
use Rattle.dns_core.specs.Sent.{slate}
use Rattle.dns_stream_driver.specs.Links.{frame_octets}
use Rattle.dns_stream_driver.specs.Story.{Extra, all_but_last}
use Rattle.dns_io.specs.Traffic.{Traffic}
use Rattle.dns_events.specs.declared.event.Event.{Event}
use Rattle.dns_events.specs.declared.event.Why.{Why}
use Rattle.dns_events.specs.declared.settings.Settings.{Settings}
use Rattle.dns_trace.specs.Trace.{trace}
use Rattle.dns_trace.specs.Traced.{traced}

-- the octets of the frames that a client is sent, if these events are served
abbrev pub frames_for : Serving → Settings → ℕ → List Event → List ℕ
frames_for answers settings client es = frame_octets (filter (is_for client) (out answers settings es))

-- A text is the trace of these settings and of events, and reads back to them. What the link was written are the frames that the
-- client is sent for the events. If a write failed or took too long, a part of one frame more may follow. It stood first in its
-- queue before the last of them.
pub record Replays (answers : Serving) (settings : Settings) (client : ℕ) (why : Why) (text : List ℕ) (t t' : Traffic) : Type 0 where
  pub events : List Event
  pub extra : List ℕ
  pub is : text ≡ trace settings events
  pub read : traced text ≡ Ok (settings, events)
  pub went : t'.went ≡ t.went ++ (frames_for answers settings client events ++ extra)
  pub cut : Extra (Some why) (slate answers settings client (all_but_last events)).queue extra
