-- The line that configures the stream server: each number is limited to its range. Of a budget it says nothing.
use Rattle.std.specs.Prelude.{ℕ, ◌+◌, Bool, ◌==◌, List, length, Result, Ok}
use Rattle.dns_events.specs.Config.{Stream, in_range, default_connection}
use Rattle.dns_trace.specs.Words.{word_at}
use Rattle.dns_trace.specs.Reading.{◌>>=◌, unless}
use Rattle.dns_trace.specs.Values.{num_of, yes_no_of}
use Rattle.dns_trace.specs.declared.reason.Reason.{Reason}
use Rattle.dns_trace.specs.declared.reason.Reason.TheVariants.{Count}

abbrev pub configured : ℕ → ℕ → ℕ → ℕ → Bool → Stream
configured idle write queue limit accepts = record {
  accept_connections_at_max = accepts;
  max_concurrent_connections = in_range 1 100000 limit;
  connection_config = record default_connection {
    idle_timeout = in_range 200 2592000000 idle;
    response_write_timeout = in_range 1 3600000 write;
    max_queued_responses = in_range 1 1024 queue;
  };
}

-- IDLE WRITE, from word i on
unfoldable pub timeouts_of : List (List ℕ) → ℕ → Result (ℕ × ℕ) Reason
timeouts_of ws i = do
  idle ← num_of (word_at ws i)
  write ← num_of (word_at ws (i + 1))
  Ok (idle, write)

-- IDLE WRITE QUEUE LIMIT yes|no, from word i on
unfoldable pub stream_values : List (List ℕ) → ℕ → Result Stream Reason
stream_values ws i = do
  timeouts ← timeouts_of ws i
  queue ← num_of (word_at ws (i + 2))
  limit ← num_of (word_at ws (i + 3))
  accepts ← yes_no_of (word_at ws (i + 4))
  Ok (configured timeouts.0 timeouts.1 queue limit accepts)

-- stream IDLE WRITE QUEUE LIMIT yes|no
unfoldable pub stream_line : List (List ℕ) → Result Stream Reason
stream_line ws = do
  _ ← unless Count (length ws == 6)
  stream_values ws 1
