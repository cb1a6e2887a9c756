-- The line that says how many responses each connection may queue in one window of time: both numbers are limited to their ranges.
use Rattle.std.specs.Prelude.{ℕ, ◌+◌, ◌==◌, List, length, Option, Some, None, Result, Ok, codes, if◌then◌else◌}
use Rattle.std.specs.Str.{bytes_eq}
use Rattle.dns_events.specs.Config.{Stream, in_range, limited_budget}
use Rattle.dns_trace.specs.Words.{word_at}
use Rattle.dns_trace.specs.Reading.{◌>>=◌, unless}
use Rattle.dns_trace.specs.Values.{num_of}
use Rattle.dns_trace.specs.declared.budget_line.Budget.{Budget}
use Rattle.dns_trace.specs.declared.reason.Reason.{Reason}
use Rattle.dns_trace.specs.declared.reason.Reason.TheVariants.{Count}

-- the configuration of a stream server with this budget for each connection, or as it is if none is said
abbrev pub budgeted : Option Budget → Stream → Stream
budgeted None s = s
budgeted (Some b) s = record s {
  connection_config = record s.connection_config {
    response_budget = limited_budget b.count;
    budget_window = in_range 1 3600000 b.window;
  };
}

-- a number of responses, or none
unfoldable pub num_or_none : List ℕ → Result (Option ℕ) Reason
num_or_none w = if bytes_eq w (codes "none") then Ok None else (num_of w >>= λ n. Ok (Some n))

-- BUDGET WINDOW, from word i on
unfoldable pub budget_values : List (List ℕ) → ℕ → Result Budget Reason
budget_values ws i = do
  count ← num_or_none (word_at ws i)
  window ← num_of (word_at ws (i + 1))
  Ok (record { count = count; window = window })

-- budget BUDGET WINDOW
unfoldable pub budget_line : List (List ℕ) → Result Budget Reason
budget_line ws = do
  _ ← unless Count (length ws == 3)
  budget_values ws 1
