use Rattle.std.proofs.Common.{◌≡◌, drop}
use Rattle.std.specs.List.{list_any}
use Rattle.dns_zone_tree.specs.Kinds.{is_kind}
use Rattle.dns_zone_tree.proofs.kinds.has_kind.Given as goal

abbrev pub invariant-each : goal.invariant-each
invariant-each l = list_any (is_kind l.rtype) (drop l.kind-index l.kinds) ≡ list_any (is_kind l.rtype) l.kinds
