use Rattle.std.proofs.Common.{drop}
use Rattle.std.specs.List.{AllByRecursion}
use Rattle.dns_zone_tree.specs.Names.{IsHeaded}
use Rattle.dns_zone_tree.proofs.heads.are_headed.Given as goal

abbrev pub invariant-each : goal.invariant-each
invariant-each l = AllByRecursion (IsHeaded l.octets l.records) (drop l.node-index l.nodes) → AllByRecursion (IsHeaded l.octets l.records) l.nodes
