-- The line that configures the datagram server: each number is limited to its range.
use Rattle.std.specs.Prelude.{ℕ, ◌+◌, ◌==◌, List, length, Option, Result, Ok}
use Rattle.dns_events.specs.Config.{Dgram, in_range, limited_size}
use Rattle.dns_trace.specs.Words.{word_at}
use Rattle.dns_trace.specs.Reading.{◌>>=◌, unless}
use Rattle.dns_trace.specs.Values.{num_of, size_or_none}
use Rattle.dns_trace.specs.declared.reason.Reason.{Reason}
use Rattle.dns_trace.specs.declared.reason.Reason.TheVariants.{Count}

abbrev pub sized_dgram : Option ℕ → ℕ → Dgram
sized_dgram size write = record { max_response_size = limited_size size; write_timeout = in_range 1 60000 write }

-- SIZE WRITE, from word i on
unfoldable pub dgram_values : List (List ℕ) → ℕ → Result Dgram Reason
dgram_values ws i = do
  size ← size_or_none (word_at ws i)
  write ← num_of (word_at ws (i + 1))
  Ok (sized_dgram size write)

-- dgram SIZE WRITE
unfoldable pub dgram_line : List (List ℕ) → Result Dgram Reason
dgram_line ws = do
  _ ← unless Count (length ws == 3)
  dgram_values ws 1
