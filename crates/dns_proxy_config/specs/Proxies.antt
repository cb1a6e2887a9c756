-- What the configuration of a proxy sets besides that of a name server. A key that isn't there leaves the value that one starts from,
-- and each value is limited to its range.
use Rattle.std.specs.Prelude.{ℕ, ◌+◌, ◌==◌, Bool, List, [], length, map, reverse, Option, Some, None, unwrap_or}
use Rattle.std.specs.List.{find}
use Rattle.dns_lookup.specs.declared.lookup_event.UpstreamConfig.{UpstreamConfig}
use Rattle.dns_config.specs.Configurations.{value_of}
use Rattle.dns_config.specs.declared.address.Endpoint.{Endpoint}
use Rattle.dns_config.specs.declared.config.Limits.{Limits as ServerLimits}
use Rattle.dns_config.specs.declared.config.Timeouts.{Timeouts}
use Rattle.dns_config.specs.declared.config.Cookies.{Cookies}
use Rattle.dns_config.specs.declared.prefix.Prefix.{Prefix}
use Rattle.dns_proxy_config.specs.declared.cookies.CookieKeys.{CookieKeys}
use Rattle.dns_proxy_config.specs.declared.when_full.WhenFull.{WhenFull}
use Rattle.dns_proxy_config.specs.declared.when_full.WhenFull.TheVariants.{Fail}
use Rattle.dns_proxy_config.specs.declared.limits.Limits.{Limits}
use Rattle.dns_proxy_config.specs.declared.config.UpstreamEntry.{UpstreamEntry}

-- the limits and times that a name server has too: the requests of a connection that wait are its responses that may be queued
abbrev pub client_limits : Limits → ServerLimits
client_limits l = record {
  response_size = l.response_size;
  connections = l.connections;
  turn_away = None;
  queued_responses = l.requests;
  responses = None;
}

abbrev pub client_timeouts : Limits → Timeouts
client_timeouts l = record { idle = l.idle; write = None; window = None; datagram_write = None }

-- what is done with one query more: its client is answered, if nothing is said
abbrev pub when_full_of : Limits → WhenFull
when_full_of l = unwrap_or l.when_full Fail

-- the cookies that a name server has too, and the networks that need one
abbrev pub server_cookies : CookieKeys → Cookies
server_cookies k = record { secret = k.secret; deny = k.deny }

abbrev pub required_of : Option CookieKeys → List Prefix
required_of None = []
required_of (Some k) = k.require.items

-- how many replies the cache keeps, and how many queries may be asked of upstreams at once
abbrev pub replies_of : Option ℕ → ℕ
replies_of o = value_of 1 65536 10000 o

abbrev pub queries_of : Limits → ℕ
queries_of l = value_of 1 10000 1000 l.queries

-- a server: it is asked three times, each time a second after the one before
abbrev pub upstream_of : Limits → Endpoint → UpstreamConfig
upstream_of l e = record { addr = e.address; tries = value_of 1 8 3 l.tries; timeout = value_of 10 60000 1000 l.timeout }

abbrev pub servers_of : Limits → UpstreamEntry → List UpstreamConfig
servers_of l e = map (upstream_of l) e.servers.items

-- the servers of an upstream, under its name
abbrev pub route_of : Limits → UpstreamEntry → List (List ℕ) × List UpstreamConfig
route_of l e = (e.name.name, servers_of l e)

-- the name of the root, whose label is the only one
abbrev pub is_root : UpstreamEntry → Bool
is_root e = length e.name.name + 1 == 1

-- the upstream of the root, the last one if there are several
abbrev pub root_entry : List UpstreamEntry → Option UpstreamEntry
root_entry entries = find is_root (reverse entries)
