-- A text that is read line by line: what it says, or its first bad line and the reason.
use Rattle.std.specs.Prelude.{◌≡◌, ℕ, ◌+◌, Bool, List, [], ◌∷◌, Result, Ok, Err, if◌then◌else◌}
use Rattle.dns_trace.specs.Lines.{is_skipped, is_text}
use Rattle.dns_trace.specs.Reading.{◌>>=◌, unless}
use Rattle.dns_trace.specs.Words.{words_of}
use Rattle.dns_trace.specs.declared.reason.Reason.{Reason}
use Rattle.dns_trace.specs.declared.reason.Reason.TheVariants.{Text}
use Rattle.dns_trace.specs.declared.text_reader.TraceError.{TraceError}
use Rattle.dns_trace.specs.declared.text_reader.TraceError.TheVariants.{Line, OutOfMemory}

abbrev pub numbered : {A : Type 0} → ℕ → Result A Reason → Result A (ℕ × Reason)
numbered n (Ok x) = Ok x
numbered n (Err r) = Err (n, r)

-- by the reading of a line that says something, after what the lines before it said
module _ {S : Type 0} (with_line : S → List (List ℕ) → Result S Reason) where
  -- what is said with the line of these words more, which is text or isn't
  unfoldable pub after_words : S → Bool → List (List ℕ) → Result S Reason
  after_words s text ws = if is_skipped ws then Ok s else (unless Text text >>= λ _. with_line s ws)

  abbrev pub after_line : S → List ℕ → Result S Reason
  after_line s l = after_words s (is_text l) (words_of l)

  -- the lines, of which the first is line n, after those that said s
  abbrev pub after_lines : ℕ → S → List (List ℕ) → Result S (ℕ × Reason)
  after_lines n s [] = Ok s
  after_lines n s (l ∷ ls) = numbered n (after_line s l) >>= λ t. after_lines (n + 1) t ls

abbrev pub RefusesLine : {S : Type 0} → TraceError → Result S (ℕ × Reason) → Type 0
RefusesLine OutOfMemory read = Unit {0}
RefusesLine (Line n r) read = read ≡ Err (n, r)

-- what is said with lines more, or the first bad one and the reason, unless memory ran out
abbrev pub TakesLines : {S : Type 0} → Result (Unit {0}) TraceError → S → Result S (ℕ × Reason) → Type 0
TakesLines (Ok u) said read = read ≡ Ok said
TakesLines (Err e) said read = RefusesLine e read
