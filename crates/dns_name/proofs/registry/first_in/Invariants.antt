use Rattle.std.proofs.Common.{◌≡◌, drop, map}
use Rattle.std.specs.List.{find}
use Rattle.dns_name.specs.Registries.{entry_of, fits}
use Rattle.dns_name.proofs.registry.first_in.Given as goal

abbrev pub invariant-loop-named : goal.invariant-loop-named
invariant-loop-named l = find (fits l.wanted) (map entry_of (drop l.named-index l.table)) ≡ find (fits l.wanted) (map entry_of l.table)
