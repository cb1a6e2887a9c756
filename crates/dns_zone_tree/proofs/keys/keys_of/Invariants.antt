use Rattle.dns_zone_tree.proofs.KeyedLaws.{IsKeying}
use Rattle.dns_zone_tree.proofs.keys.keys_of.Given as goal

abbrev pub invariant-each : goal.invariant-each
invariant-each l = IsKeying l.keys.octets.items l.keys.keyed.items l.records l.place
