-- A trace beside a script: its lines are those of a script without a service, a target or a zone.
use Rattle.std.specs.Prelude.{◌≡◌, ℕ, ◌||◌, Bool, false, List, Result, Ok, Err, codes, if◌then◌else◌}
use Rattle.std.specs.List.{All}
use Rattle.std.specs.Str.{bytes_eq}
use Rattle.dns_events.specs.declared.event.Event.{Event}
use Rattle.dns_events.specs.declared.settings.Settings.{Settings}
use Rattle.dns_trace.specs.EventLines.{event_line}
use Rattle.dns_trace.specs.Lines.{is_text}
use Rattle.dns_trace.specs.TextLines.{after_lines}
use Rattle.dns_trace.specs.Words.{word_at, words_of}
use Rattle.dns_trace.specs.declared.reason.Reason.{Reason}
use Rattle.dns_trace.specs.declared.reason.Reason.TheVariants.{Text, Word}
use Rattle.dns_script.specs.Draft.{Draft, empty_draft}
use Rattle.dns_script.specs.Plan.{Plan, settings_of}
use Rattle.dns_script.specs.Script.{every_word, said_line}

-- lines of a service, of a target or of a zone begin with this word
abbrev pub is_service_word : List ℕ → Bool
is_service_word w =
    bytes_eq w (codes "rule") || (bytes_eq w (codes "notify")
    || (bytes_eq w (codes "upstream") || (bytes_eq w (codes "zone") || bytes_eq w (codes "record"))))

abbrev pub is_service_line : List ℕ → Bool
is_service_line l = is_service_word (word_at (words_of l) 0)

abbrev pub AreNoServices : List (List ℕ) → Type 0
AreNoServices ls = All (λ l. is_service_line l ≡ false) ls

-- the settings and the events that a script says, or its refusal
abbrev pub script_trace : Result (Plan Event) (ℕ × Reason) → Result (Settings × List Event) (ℕ × Reason)
script_trace (Ok p) = Ok (settings_of p, p.events)
script_trace (Err e) = Err e

-- a line of no such name, unless it is no text
abbrev pub service_reason : List ℕ → Reason
service_reason l = if is_text l then Word else Text

-- the refusal of lines, or else of the line after them, which is the first of a service
abbrev pub refused_behind : ℕ → List ℕ → Result (Draft Event) (ℕ × Reason) → Result (Settings × List Event) (ℕ × Reason)
refused_behind n l (Ok d) = Err (n, service_reason l)
refused_behind n l (Err e) = Err e

-- what a script's lines say
abbrev pub script_lines : List (List ℕ) → Result (Draft Event) (ℕ × Reason)
script_lines ls = after_lines (said_line every_word event_line) 1 empty_draft ls
