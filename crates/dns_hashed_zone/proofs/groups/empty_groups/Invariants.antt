use Rattle.dns_hashed_zone.specs.HashedStates.{AreEmpty, items_of}
use Rattle.dns_hashed_zone.proofs.groups.empty_groups.Given as goal

abbrev pub invariant-each : goal.invariant-each
invariant-each l = AreEmpty (items_of l.groups.items) l.made
