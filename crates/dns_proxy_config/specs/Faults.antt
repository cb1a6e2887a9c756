-- Why upstreams of a configuration are refused.
use Rattle.std.specs.Prelude.{◌≡◌, List, [], None, true, length, nat_eq, Bool}
use Rattle.std.specs.List.{list_any}
use Rattle.dns_config.specs.declared.address.Endpoint.{Endpoint}
use Rattle.dns_proxy_config.specs.declared.config.UpstreamEntry.{UpstreamEntry}
use Rattle.dns_proxy_config.specs.declared.upstreams.UpstreamError.{UpstreamError}
use Rattle.dns_proxy_config.specs.declared.upstreams.UpstreamError.TheVariants.{NoRoot, NoServer, OutOfMemory}
use Rattle.dns_proxy_config.specs.Proxies.{root_entry}

-- servers are refused if there is none
abbrev pub IsNoServer : List Endpoint → UpstreamError → Type 0
IsNoServer servers NoRoot = ⊥
IsNoServer servers NoServer = servers ≡ []
IsNoServer servers OutOfMemory = Unit {0}

abbrev pub has_no_server : UpstreamEntry → Bool
has_no_server e = nat_eq (length e.servers.items) 0

-- upstreams are refused if none is of the root, and if one has no server
abbrev pub IsFault : List UpstreamEntry → UpstreamError → Type 0
IsFault entries NoRoot = root_entry entries ≡ None
IsFault entries NoServer = list_any has_no_server entries ≡ true
IsFault entries OutOfMemory = Unit {0}
