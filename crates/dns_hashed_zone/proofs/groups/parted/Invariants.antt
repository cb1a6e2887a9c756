use Rattle.dns_hashed_zone.specs.HashedStates.{ArePartsOf}
use Rattle.dns_hashed_zone.proofs.groups.parted.Given as goal

abbrev pub invariant-each : goal.invariant-each
invariant-each l =
    (goal.iterator-each).can_next l.resource-iterator × (goal.iterator-each).is_finite l.resource-iterator × ArePartsOf l.yielded l.named.items l.hashed.items
