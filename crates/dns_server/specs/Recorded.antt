-- What the text of a trace says was noted.
use Rattle.std.specs.Prelude.{◌≡◌, ℕ, ◌==◌, Bool, not, ◌||◌, List, [], ◌∷◌, Result, Ok, Err}
use Rattle.std.specs.List.{All}
use Rattle.dns_model.specs.Own.{is_wide}
use Rattle.dns_events.specs.declared.event.Event.{Event}
use Rattle.dns_events.specs.declared.event.EventKind.TheVariants.{Piece}
use Rattle.dns_events.specs.declared.settings.Settings.{Settings}
use Rattle.dns_trace.specs.InRange.{IsEvent, IsSettings}
use Rattle.dns_trace.specs.Trace.{settings_text, trace}
use Rattle.dns_trace.specs.Traced.{traced}
use Rattle.dns_trace.specs.declared.reason.Reason.{Reason}

-- the settings that hold before the first event: an event that no client has, whose octets are their lines
abbrev pub settings_event : Settings → Event
settings_event s = record { at = 0; secs = 0; client = 0; kind = Piece (settings_text s) }

-- the settings, and then the events
abbrev pub recorded_of : Result (Settings × List Event) (ℕ × Reason) → List Event
recorded_of (Ok t) = settings_event t.0 ∷ t.1
recorded_of (Err e) = []

unfoldable pub recorded : List ℕ → List Event
recorded text = recorded_of (traced text)

-- a text is the trace of settings and of events in range
pub record IsTrace (text : List ℕ) : Type 0 where
  pub settings : Settings
  pub events : List Event
  pub is : text ≡ trace settings events
  pub sound : IsSettings settings
  pub each : All IsEvent events

-- an event that all clients hear names none, so that its line says all of it
abbrev pub is_said : Event → Bool
is_said e = not (is_wide e.kind) || (e.client == 0)

-- A text is the trace of settings in range and of the events that were noted after these settings, and reads back to them.
pub record TraceReadsBack (text : List ℕ) (noted : List Event) : Type 0 where
  pub settings : Settings
  pub events : List Event
  pub is : text ≡ trace settings events
  pub sound : ∥ IsSettings settings ∥₁
  pub read : traced text ≡ Ok (settings, events)
  pub noted_are : noted ≡ settings_event settings ∷ events
