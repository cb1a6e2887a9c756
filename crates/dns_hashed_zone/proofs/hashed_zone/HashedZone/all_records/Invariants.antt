use Rattle.std.proofs.Common.{◌≡◌, ◌++◌, take}
use Rattle.dns_hashed_zone.specs.HashedStates.{items_of, joined}
use Rattle.dns_hashed_zone.proofs.hashed_zone.HashedZone.all_records.Given as goal

abbrev pub invariant-each : goal.invariant-each
invariant-each l = l.all.items ≡ l.self.zone.records ++ joined (items_of (take l.group-index l.group-items))
