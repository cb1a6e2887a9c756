use Rattle.std.proofs.Common.{◌≡◌, take}
use Rattle.std.specs.List.{flat_map}
use Rattle.dns_hashed_reply.specs.HashedReplies.{group_at}
use Rattle.dns_hashed_reply.proofs.reply.hashed_records.Given as goal

abbrev pub invariant-each : goal.invariant-each
invariant-each l = l.records.items ≡ flat_map (group_at l.zone) (take l.place-index l.places)
