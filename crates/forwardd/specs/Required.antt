-- The networks whose clients need a cookie.
use Rattle.dns_config.specs.declared.prefix.Prefix.{Prefix}
use Rattle.dns_fronts.specs.declared.networks.Network.{Network}

-- the network that a configuration writes
abbrev pub network_of : Prefix → Network
network_of p = record { address = p.address; bits = p.bits }
