-- What a text of settings says: its lines are those before the first event of a script.
use Rattle.std.specs.Prelude.{ℕ, ◌≡◌, true, List, Option, Some, None, Result, Ok, Err}
use Rattle.std.specs.Str.Lines.{lines}
use Rattle.dns_events.specs.declared.settings.Settings.{Settings}
use Rattle.dns_trace.specs.Said.{Said, nothing_said, settings_said}
use Rattle.dns_trace.specs.SettingLines.{setting_line, setting_named}
use Rattle.dns_trace.specs.TextLines.{RefusesLine, after_lines}
use Rattle.dns_trace.specs.Words.{word_at}
use Rattle.dns_trace.specs.declared.reason.Reason.{Reason}
use Rattle.dns_trace.specs.declared.reason.Reason.TheVariants.{Word}
use Rattle.dns_trace.specs.declared.setting.Setting.{Setting}
use Rattle.dns_trace.specs.declared.text_reader.TraceError.{TraceError}

-- the line of a setting, or of nothing that is one
abbrev pub said_by : Option Setting → Said → List (List ℕ) → Result Said Reason
said_by (Some setting) s ws = setting_line setting true s ws
said_by None s ws = Err Word

abbrev pub said_with : Said → List (List ℕ) → Result Said Reason
said_with s ws = said_by (setting_named (word_at ws 0)) s ws

-- the settings that were said, or the first bad line and the reason
abbrev pub whole_settings : Result Said (ℕ × Reason) → Result Settings (ℕ × Reason)
whole_settings (Ok s) = Ok (settings_said s)
whole_settings (Err e) = Err e

abbrev pub settings_in : List ℕ → Result Settings (ℕ × Reason)
settings_in text = whole_settings (after_lines said_with 1 nothing_said (lines text))

-- a reader gave the settings, or the first bad line and the reason, unless memory ran out
abbrev pub ReadsSettings : Result Settings TraceError → Result Settings (ℕ × Reason) → Type 0
ReadsSettings (Ok s) read = read ≡ Ok s
ReadsSettings (Err e) read = RefusesLine e read
