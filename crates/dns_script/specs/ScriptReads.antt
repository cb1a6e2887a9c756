-- What the reader of a script answers, for a line and for a text.
pub use Rattle.dns_trace.specs.Reading.{TakesLine}
use Rattle.std.specs.Prelude.{◌≡◌, ℕ, Result, Ok, Err}
use Rattle.dns_trace.specs.declared.reason.Reason.{Reason}
use Rattle.dns_script.specs.declared.script.ScriptError.{ScriptError}
use Rattle.dns_script.specs.declared.script.ScriptError.TheVariants.{OutOfMemory, Refused}

abbrev pub RefusesScript : {A : Type 0} → ScriptError → Result A (ℕ × Reason) → Type 0
RefusesScript OutOfMemory read = Unit {0}
RefusesScript (Refused n r) read = read ≡ Err (n, r)

-- what a script says, or its first bad line, unless memory ran out
abbrev pub ReadsScript : {A : Type 0} → Result A ScriptError → Result A (ℕ × Reason) → Type 0
ReadsScript (Ok s) read = read ≡ Ok s
ReadsScript (Err e) read = RefusesScript e read
