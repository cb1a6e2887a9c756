use Rattle.std.proofs.Common.{◌≡◌, ◌++◌, map, take}
use Rattle.dns_proxy_config.specs.Proxies.{upstream_of}
use Rattle.dns_proxy_config.proofs.upstreams.servers_of.Given as goal

abbrev pub invariant-each : goal.invariant-each
invariant-each l = l.servers ≡ l.initial.servers ++ map (upstream_of l.limits) (take l.endpoint-index l.others)
