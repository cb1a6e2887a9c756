use Rattle.dns_hashed_zone.specs.HashedStates.{items_of}
use Rattle.dns_hashed_zone.proofs.GroupLaws.{AreGroupedAs}
use Rattle.dns_hashed_zone.proofs.groups.grouped.Given as goal

abbrev pub invariant-each : goal.invariant-each
invariant-each l =
    (goal.iterator-each).can_next l.resource-iterator × (goal.iterator-each).is_finite l.resource-iterator × AreGroupedAs l.apex l.nsecs l.yielded (items_of l.groups.items) l.at
