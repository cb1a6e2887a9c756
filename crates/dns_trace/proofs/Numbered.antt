-- Lines with their numbers: one that is refused refuses those that it begins.
use Rattle.std.proofs.Common.{◌≡◌, ◌∙◌, ℕ, ◌+◌, List, ◌∷◌, ap}
use Rattle.std.specs.Prelude.{Result}
use Rattle.dns_trace.specs.Reading.{◌>>=◌}
use Rattle.dns_trace.specs.TextLines.{RefusesLine, after_line, after_lines, numbered}
use Rattle.dns_trace.specs.declared.reason.Reason.{Reason}
use Rattle.dns_trace.specs.declared.text_reader.TraceError.{TraceError}
use Rattle.dns_trace.specs.declared.text_reader.TraceError.TheVariants.{Line, OutOfMemory}

pub refused_first : {S : Type 0} (with_line : S → List (List ℕ) → Result S Reason) (n : ℕ) (s : S) (l : List ℕ) (all ls : List (List ℕ)) (whole : Result S (ℕ × Reason)) (e : TraceError)
    → all ≡ l ∷ ls → after_lines with_line n s all ≡ whole → RefusesLine e (numbered n (after_line with_line s l)) → RefusesLine e whole
refused_first {S = S} with_line n s l all ls whole OutOfMemory c w h = tt
refused_first {S = S} with_line n s l all ls whole (Line m r) c w h =
    rw (← w) (ap (λ (x : List (List ℕ)). after_lines with_line n s x) c ∙ ap (λ (x : Result S (ℕ × Reason)). x >>= λ t. after_lines with_line (n + 1) t ls) h)
