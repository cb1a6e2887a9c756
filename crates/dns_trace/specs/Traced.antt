-- What a text of settings and events says.
use Rattle.std.specs.Prelude.{◌≡◌, ℕ, ◌==◌, List, [], ◌∷◌, ◌++◌, length, Option, Some, None, Result, Ok, Err}
use Rattle.std.specs.Str.Lines.{lines}
use Rattle.dns_events.specs.declared.event.Event.{Event}
use Rattle.dns_trace.specs.EventLines.{event_line}
use Rattle.dns_trace.specs.Reading.{◌>>=◌}
use Rattle.dns_trace.specs.Said.{Said, nothing_said, settings_said}
use Rattle.dns_trace.specs.SettingLines.{setting_line, setting_named}
use Rattle.dns_trace.specs.TextLines.{RefusesLine, after_lines}
use Rattle.dns_trace.specs.Words.{word_at}
use Rattle.dns_trace.specs.declared.reason.Reason.{Reason}
use Rattle.dns_trace.specs.declared.setting.Setting.{Setting}
use Rattle.dns_trace.specs.declared.text_reader.TraceError.{TraceError}
use Rattle.dns_events.specs.declared.settings.Settings.{Settings}

-- what lines said: of settings, and the events in their order
pub record TraceSaid : Type 0 where
  pub settings : Said
  pub events : List Event

abbrev pub nothing_traced : TraceSaid
nothing_traced = record { settings = nothing_said; events = [] }

unfoldable pub next_setting : Setting → TraceSaid → List (List ℕ) → Result TraceSaid Reason
next_setting setting t ws = setting_line setting (length t.events == 0) t.settings ws >>= λ s. Ok (record t { settings = s })

unfoldable pub next_event : TraceSaid → List (List ℕ) → Result TraceSaid Reason
next_event t ws = event_line ws >>= λ e. Ok (record t { events = t.events ++ e ∷ [] })

-- the line of a setting, or else of an event
abbrev pub next_said : Option Setting → TraceSaid → List (List ℕ) → Result TraceSaid Reason
next_said (Some setting) t ws = next_setting setting t ws
next_said None t ws = next_event t ws

abbrev pub trace_line : TraceSaid → List (List ℕ) → Result TraceSaid Reason
trace_line t ws = next_said (setting_named (word_at ws 0)) t ws

-- the settings and the events, or the first bad line and the reason
abbrev pub whole_trace : Result TraceSaid (ℕ × Reason) → Result (Settings × List Event) (ℕ × Reason)
whole_trace (Ok t) = Ok (settings_said t.settings, t.events)
whole_trace (Err e) = Err e

unfoldable pub traced : List ℕ → Result (Settings × List Event) (ℕ × Reason)
traced text = whole_trace (after_lines trace_line 1 nothing_traced (lines text))

-- a reader gave the settings and the events, or the first bad line and the reason, unless memory ran out
abbrev pub ReadsTrace : {V : Type 0} → (V → List Event) → Result (Settings × V) TraceError
    → Result (Settings × List Event) (ℕ × Reason) → Type 0
ReadsTrace events (Ok r) read = read ≡ Ok (r.0, events r.1)
ReadsTrace events (Err e) read = RefusesLine e read
