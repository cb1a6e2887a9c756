use Rattle.std.proofs.Common.{◌≡◌, ◌++◌, take}
use Rattle.dns_hashed_reply.proofs.reply.add_records.Given as goal

abbrev pub invariant-each : goal.invariant-each
invariant-each l = l.into.items ≡ l.fn.into.items ++ take l.resource-index l.records
