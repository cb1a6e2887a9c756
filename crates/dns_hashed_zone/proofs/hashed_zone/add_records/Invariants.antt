use Rattle.std.proofs.Common.{◌≡◌, ◌++◌, take}
use Rattle.dns_hashed_zone.proofs.hashed_zone.add_records.Given as goal

abbrev pub invariant-each : goal.invariant-each
invariant-each l = l.into.items ≡ l.fn.into.items ++ take l.resource-index l.records
