-- Lines that are written are read one after the other.
use Rattle.std.proofs.Common.{◌≡◌, ℕ, ◌+◌, ◌==◌, false, List, [], ◌∷◌, ◌++◌, map, length, refl, ap, arith}
use Rattle.std.specs.Prelude.{Err, Ok, Result, slice_index}
use Rattle.std.specs.List.{join_with_byte}
use Rattle.std.proofs.lemmas.Bool.{ne_eqb}
use Rattle.dns_trace.proofs.Joined.{AllWords, AreWords, joined_text, words_joined}
use Rattle.dns_trace.specs.Reading.{◌>>=◌}
use Rattle.dns_trace.specs.TextLines.{after_line, after_lines, after_words, numbered}
use Rattle.dns_trace.specs.declared.reason.Reason.{Reason}

-- a line whose first word isn't that of a comment
abbrev pub Says : List (List ℕ) → Type 0
Says [] = ⊥
Says (w ∷ ws) = (slice_index w 0 == 35) ≡ false

abbrev pub AllSay : List (List (List ℕ)) → Type 0
AllSay [] = Unit {0}
AllSay (ws ∷ more) = AreWords ws × Says ws × AllSay more

module _ {S : Type 0} (with_line : S → List (List ℕ) → Result S Reason) where
  -- what lines of these words say, after s
  abbrev pub said_by : S → List (List (List ℕ)) → Result S Reason
  said_by s [] = Ok s
  said_by s (ws ∷ more) = with_line s ws >>= λ t. said_by t more

  line_read : (s : S) (ws : List (List ℕ)) → AreWords ws → Says ws → after_line with_line s (join_with_byte 32 ws) ≡ with_line s ws
  unfolding after_words
  line_read s [] words says = absurd says
  line_read s (w ∷ ws) words says =
      let some : (length (w ∷ ws) == 0) ≡ false = ne_eqb (length (w ∷ ws)) 0 (λ e. omega arith) in
      rw (words_joined w ws words, (joined_text (w ∷ ws) words).within, some, says) refl

  -- what a first step gave, if both gave t
  first_step : (r : Result S Reason) (f : S → Result S Reason) (t : S) → (r >>= f) ≡ Ok t → (u : S) × (r ≡ Ok u) × (f u ≡ Ok t)
  first_step (Ok u) f t h = (u, refl, h)
  first_step (Err e) f t h = cc h

  pub lines_read : (all : List (List (List ℕ))) (n : ℕ) (s t : S) → AllSay all → said_by s all ≡ Ok t → after_lines with_line n s (map (join_with_byte 32) all) ≡ Ok t
  lines_read [] n s t say h = ap (λ (r : Result S Reason). numbered n r) h
  lines_read (ws ∷ more) n s t say h =
      let first = first_step (with_line s ws) (λ u. said_by u more) t h in
      rw (line_read s ws say.0 say.1, first.1) (lines_read more (n + 1) first.0 t say.2 first.2)

  pub said_append : (all more : List (List (List ℕ))) (s t : S) → said_by s all ≡ Ok t → said_by s (all ++ more) ≡ said_by t more
  said_append [] more s t h = ap (λ (r : Result S Reason). r >>= λ u. said_by u more) h
  said_append (ws ∷ all) more s t h =
      let first = first_step (with_line s ws) (λ u. said_by u all) t h in
      rw first.1 (said_append all more first.0 t first.2)

pub say_append : (all more : List (List (List ℕ))) → AllSay all → AllSay more → AllSay (all ++ more)
say_append [] more h k = k
say_append (ws ∷ all) more h k = (h.0, h.1, say_append all more h.2 k)

pub words_of_all : (all : List (List (List ℕ))) → AllSay all → AllWords all
words_of_all [] h = tt
words_of_all (ws ∷ more) h = (h.0, words_of_all more h.2)
