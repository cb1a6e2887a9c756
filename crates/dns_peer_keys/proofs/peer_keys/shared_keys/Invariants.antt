use Rattle.std.proofs.Common.{◌≡◌, take, map}
use Rattle.std.specs.Arc.{arc_value}
use Rattle.dns_peer_keys.proofs.peer_keys.shared_keys.Given as goal

abbrev pub invariant-keys : goal.invariant-keys
invariant-keys l = map arc_value l.shared.items ≡ map arc_value (take l.i l.keys)
