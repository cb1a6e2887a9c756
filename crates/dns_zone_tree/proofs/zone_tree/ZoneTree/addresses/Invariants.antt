use Rattle.std.proofs.Common.{◌≡◌, ℕ, take}
use Rattle.std.specs.BTreeSet.{contains}
use Rattle.std.specs.List.{slice_get}
use Rattle.std.specs.Ordering.{nat_cmp}
use Rattle.dns_zone.specs.Cuts.{is_glue}
use Rattle.dns_zone.specs.Places.{at_places, passes}
use Rattle.dns_zone_tree.specs.Kinds.{places_of}
use Rattle.dns_zone_tree.proofs.zone_tree.ZoneTree.addresses.Given as goal

abbrev pub invariant-each : goal.invariant-each
invariant-each l = (i : ℕ) → contains nat_cmp l.addresses i ≡ passes (is_glue (at_places l.self.records (places_of 2 (take l.kind-index l.kinds)))) (slice_get l.self.records i)
