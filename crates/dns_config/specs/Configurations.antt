-- What a configuration sets. A key that isn't there leaves the value that one starts from, and each value is limited to its range.
use Rattle.std.specs.Prelude.{ℕ, Bool, true, ◌&&◌, List, [], length, nat_le, Option, Some, None, option_map, unwrap_or}
use Rattle.dns_events.specs.Config.{Connection, Dgram, Stream, in_range, limited_budget}
use Rattle.dns_name.specs.declared.address.IpAddr.{IpAddr}
use Rattle.dns_config.specs.declared.config.Cookies.{Cookies}
use Rattle.dns_config.specs.declared.fields.AddressList.{AddressList}
use Rattle.dns_config.specs.declared.config.Limits.{Limits}
use Rattle.dns_config.specs.declared.config.Timeouts.{Timeouts}

-- a value that is set, limited to its range, or the one that one starts from
abbrev pub value_of : ℕ → ℕ → ℕ → Option ℕ → ℕ
value_of low high start o = unwrap_or (option_map (in_range low high) o) start

-- the identifier of a name server has from 1 to 128 octets
abbrev pub is_identifier : List ℕ → Bool
is_identifier text = nat_le 1 (length text) && nat_le (length text) 128

abbrev pub dgram_of : Limits → Timeouts → Dgram
dgram_of l t = record {
  max_response_size = Some (value_of 512 4096 1232 l.response_size);
  write_timeout = value_of 1 60000 5000 t.datagram_write;
}

abbrev pub connection_of : Limits → Timeouts → Connection
connection_of l t = record {
  idle_timeout = value_of 200 2592000000 30000 t.idle;
  response_write_timeout = value_of 1 3600000 30000 t.write;
  max_queued_responses = value_of 1 1024 10 l.queued_responses;
  response_budget = limited_budget l.responses;
  budget_window = value_of 1 3600000 1000 t.window;
}

abbrev pub stream_of : Limits → Timeouts → Stream
stream_of l t = record {
  accept_connections_at_max = unwrap_or l.turn_away true;
  max_concurrent_connections = value_of 1 100000 100 l.connections;
  connection_config = connection_of l t;
}

-- the secret of cookies, if there are any, and who is denied service without one
abbrev pub secret_of : Option Cookies → Option (List ℕ)
secret_of o = option_map (λ c. c.secret.octets) o

abbrev pub addresses_of : Option AddressList → List IpAddr
addresses_of None = []
addresses_of (Some l) = l.addresses.items

abbrev pub denied_of : Option Cookies → List IpAddr
denied_of None = []
denied_of (Some c) = addresses_of c.deny
