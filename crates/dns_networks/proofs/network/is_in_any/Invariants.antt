use Rattle.std.proofs.Common.{◌≡◌, drop}
use Rattle.dns_networks.specs.Networks.{is_in_any}
use Rattle.dns_networks.proofs.network.is_in_any.Given as goal

abbrev pub invariant-loop-network : goal.invariant-loop-network
invariant-loop-network l = is_in_any (drop l.network-index l.networks) l.address ≡ is_in_any l.networks l.address
