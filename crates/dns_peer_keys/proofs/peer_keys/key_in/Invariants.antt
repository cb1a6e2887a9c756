use Rattle.std.proofs.Common.{◌≡◌, drop, map}
use Rattle.std.specs.Arc.{arc_value}
use Rattle.dns_peer_keys.specs.PeerKeys.{key_named, key_named_from}
use Rattle.dns_peer_keys.proofs.peer_keys.key_in.Given as goal

abbrev pub invariant-keys : goal.invariant-keys
invariant-keys l = key_named_from l.i l.name (map arc_value (drop l.i l.keys)) ≡ key_named l.name (map arc_value l.keys)
