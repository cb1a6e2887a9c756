use Rattle.dns_zone_tree.proofs.WayLaws.{IsOnWay}
use Rattle.dns_zone_tree.proofs.zone_tree.ZoneTree.walk.Given as goal

abbrev pub invariant-down : goal.invariant-down
invariant-down l = IsOnWay l.self l.name l.left l.last

abbrev pub decreases-down : goal.decreases-down
decreases-down l = l.left
