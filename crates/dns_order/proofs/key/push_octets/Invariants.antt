use Rattle.std.proofs.Common.{◌≡◌, ◌++◌, drop, map}
use Rattle.std.specs.Char.{to_ascii_lowercase}
use Rattle.dns_order.specs.Keys.{label_key}
use Rattle.dns_order.proofs.key.push_octets.Given as goal

abbrev pub invariant-octets : goal.invariant-octets
invariant-octets l = l.octets.items ++ label_key (map to_ascii_lowercase (drop l.octet-index l.label)) ≡ l.fn.octets.items ++ label_key (map to_ascii_lowercase l.label)
