use Rattle.std.proofs.Common.{◌≡◌, ◌++◌, drop}
use Rattle.std.specs.List.{flat_map}
use Rattle.dns_name.specs.Place.{two}
use Rattle.dns_presentation.proofs.param_values.key_octets.Given as goal

abbrev pub invariant-loop-key : goal.invariant-loop-key
invariant-loop-key l = l.octets.items ++ flat_map two (drop l.key-index l.keys) ≡ flat_map two l.keys
