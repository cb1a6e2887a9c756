use Rattle.std.proofs.Common.{◌≡◌, ◌++◌, map, take}
use Rattle.dns_base.specs.Records.{record_of}
use Rattle.dns_signed_reply.proofs.reply.add_written.Given as goal

abbrev pub invariant-each : goal.invariant-each
invariant-each l = l.into ≡ l.fn.into ++ map record_of (take l.record-index l.records)
