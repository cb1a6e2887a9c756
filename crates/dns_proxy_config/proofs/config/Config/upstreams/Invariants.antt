use Rattle.std.proofs.Common.{◌≡◌, map, take}
use Rattle.dns_proxy_config.specs.Proxies.{route_of}
use Rattle.dns_proxy_config.proofs.config.Config.upstreams.Given as goal

abbrev pub invariant-each : goal.invariant-each
invariant-each l = record {
  root : l.upstreams.root ≡ l.initial.upstreams.root;
  routes : l.upstreams.routes ≡ map (route_of l.self.limits) (take l.entry-index l.entries);
}
