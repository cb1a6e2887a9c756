-- Which lines say nothing, and which are text. The lines of a text are std's: each ends with LF, before which one CR is dropped,
-- and the last may
-- lack both.
use Rattle.std.specs.Prelude.{ℕ, ◌==◌, ◌||◌, Bool, List, length, slice_index}
use Rattle.std.specs.Int.{is_in_range}
use Rattle.std.specs.List.{list_all}
use Rattle.dns_trace.specs.Words.{word_at}

-- a line without words, or one whose first word begins with `#`
abbrev pub is_skipped : List (List ℕ) → Bool
is_skipped ws = (length ws == 0) || (slice_index (word_at ws 0) 0 == 35)

-- characters from the space to the tilde alone
abbrev pub is_text : List ℕ → Bool
is_text l = list_all (is_in_range 32 126) l
