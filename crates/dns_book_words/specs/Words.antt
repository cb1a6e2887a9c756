-- The state that the words of the cell stand for: slots taken; version; flags and response size;
-- datagram write timeout; idle timeout; stream write timeout; bound of a queue; limit of connections; budget, 0 for none; window.
use Rattle.std.specs.Prelude.{◌≡◌, ℕ, ◌/◌, ◌%◌, ◌==◌, if◌then◌else◌, List, slice_index, Option, Some, None}
use Rattle.dns_events.specs.Config.{in_range, limited_budget}
use Rattle.dns_events.specs.declared.look.Look.{Look as State}

-- bit 2 says that there is a response size, and it begins at bit 3
abbrev pub size_of : ℕ → Option ℕ
size_of flags = if flags / 4 % 2 == 1 then Some (in_range 512 4096 (flags / 8 % 65536)) else None

abbrev pub budget_of : ℕ → Option ℕ
budget_of word = if word == 0 then None else limited_budget (Some word)

abbrev pub state_of : List ℕ → State
state_of words =
    let flags = slice_index words 2 in
    record {
      version = slice_index words 1;
      closed = flags % 2 == 1;
      taken = slice_index words 0;
      dgram = record { max_response_size = size_of flags; write_timeout = in_range 1 60000 (slice_index words 3) };
      stream = record {
        accept_connections_at_max = flags / 2 % 2 == 1;
        max_concurrent_connections = in_range 1 100000 (slice_index words 7);
        connection_config = record {
          idle_timeout = in_range 200 2592000000 (slice_index words 4);
          response_write_timeout = in_range 1 3600000 (slice_index words 5);
          max_queued_responses = in_range 1 1024 (slice_index words 6);
          response_budget = budget_of (slice_index words 8);
          budget_window = in_range 1 3600000 (slice_index words 9);
        };
      };
    }

-- both states have the same configurations
pub record HasConfigs (s t : State) : Type 0 where
  pub dgram : s.dgram ≡ t.dgram
  pub stream : s.stream ≡ t.stream
