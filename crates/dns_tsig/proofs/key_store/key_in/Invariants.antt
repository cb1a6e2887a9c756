use Rattle.std.proofs.Common.{◌≡◌, drop, map}
use Rattle.std.specs.Arc.{arc_value}
use Rattle.dns_tsig.specs.Keys.{key_for, key_from}
use Rattle.dns_tsig.proofs.key_store.key_in.Given as goal

abbrev pub invariant-keys : goal.invariant-keys
invariant-keys l = key_from l.i (map arc_value (drop l.i l.keys)) l.tsig ≡ key_for (map arc_value l.keys) l.tsig
