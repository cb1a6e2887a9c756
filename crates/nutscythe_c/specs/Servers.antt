-- How servers are configured, by numbers.
use Rattle.std.specs.Prelude.{ℕ, ◌≡◌, ◌&&◌, ◌||◌, Bool, nat_eq, nat_le, Option, Some, None, if◌then◌else◌}
use Rattle.dns_events.specs.Config.{Connection, Dgram, Stream}
use Rattle.dns_events.specs.declared.settings.Settings.{Settings}
use Rattle.nutscythe_c.specs.declared.handle_value.HandleValue.{HandleValue}
use Rattle.nutscythe_c.specs.declared.handle_value.HandleValue.TheVariants.{Settings as KeptSettings}
use Rattle.nutscythe_c.specs.declared.servers.Servers.{Servers}
use Rattle.nutscythe_c.specs.declared.status.Status.{Status}
use Rattle.nutscythe_c.specs.declared.status.Status.TheVariants.{Done, NoHandle, OutOfRange}
use Rattle.nutscythe_c.specs.Rules.{given, is_set}

abbrev pub is_between : ℕ → ℕ → ℕ → Bool
is_between low high n = nat_le low n && nat_le n high

-- 0 stands for no limit
abbrev pub is_zero_or_between : ℕ → ℕ → ℕ → Bool
is_zero_or_between low high n = nat_eq n 0 || is_between low high n

-- the datagram server, if each of its numbers is in range
abbrev pub dgram_of : Servers → Option Dgram
dgram_of n =
    if is_zero_or_between 512 4096 n.max_response_size && is_between 1 60000 n.dgram_write_timeout
    then Some (record { max_response_size = given n.max_response_size n.max_response_size; write_timeout = n.dgram_write_timeout })
    else None

abbrev pub are_timeouts : Servers → Bool
are_timeouts n = is_between 200 2592000000 n.idle_timeout && is_between 1 3600000 n.write_timeout

abbrev pub is_budget : Servers → Bool
is_budget n = is_zero_or_between 1 1000000 n.response_budget && is_between 1 3600000 n.budget_window

-- each connection, if each of its numbers is in range
abbrev pub connection_of : Servers → Option Connection
connection_of n =
    if are_timeouts n && (is_between 1 1024 n.max_queued_responses && is_budget n)
    then Some (record {
      idle_timeout = n.idle_timeout;
      response_write_timeout = n.write_timeout;
      max_queued_responses = n.max_queued_responses;
      response_budget = given n.response_budget n.response_budget;
      budget_window = n.budget_window;
    })
    else None

abbrev pub stream_by : Servers → Option Connection → Option Stream
stream_by n None = None
stream_by n (Some connection) =
    if is_between 1 100000 n.max_connections
    then Some (record {
      accept_connections_at_max = is_set n.accepts_at_max;
      max_concurrent_connections = n.max_connections;
      connection_config = connection;
    })
    else None

-- the stream server, if each of its numbers is in range
abbrev pub stream_of : Servers → Option Stream
stream_of n = stream_by n (connection_of n)

-- settings are given both, if each number is in range
abbrev pub HasServers : Option Dgram → Option Stream → Settings → Settings → Status → Type 0
HasServers (Some d) (Some m) s after t = (t ≡ Done) × (after ≡ record s { dgram = d; stream = m })
HasServers (Some d) None s after t = (t ≡ OutOfRange) × (after ≡ s)
HasServers None m s after t = (t ≡ OutOfRange) × (after ≡ s)

abbrev pub SetsServers : Servers → Option HandleValue → Option HandleValue → Status → Type 0
SetsServers n (Some (KeptSettings s)) after t = (made : Settings) × (after ≡ Some (KeptSettings made))
    × HasServers (dgram_of n) (stream_of n) s made t
SetsServers n before after t = (t ≡ NoHandle) × (after ≡ before)
