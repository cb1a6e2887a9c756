use Rattle.std.proofs.Common.{◌≡◌, ℕ, nat_eq, take}
use Rattle.std.specs.Prelude.{◌||◌}
use Rattle.std.specs.BTreeSet.{contains}
use Rattle.std.specs.List.{list_any}
use Rattle.std.specs.Ordering.{nat_cmp}
use Rattle.dns_zone_tree.specs.Kinds.{places_of}
use Rattle.dns_zone_tree.proofs.glue.add_all.Given as goal

abbrev pub invariant-each : goal.invariant-each
invariant-each l = (i : ℕ) → contains nat_cmp l.set i ≡ (contains nat_cmp l.fn.set i || list_any (nat_eq i) (places_of l.rtype (take l.kind-index l.kinds)))
