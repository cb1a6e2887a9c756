use Rattle.dns_hashed_zone.proofs.HeldLaws.{none_matched}
use Rattle.dns_hashed_zone.proofs.check.has_nsec3.Goals as goal

pub returns-then-is_empty : goal.returns-then-is_empty
returns-then-is_empty c = none_matched c.args.hashing.now c.args.nsecs.now c.args.name.now c.is_empty.result c.is_empty.ensures c.if-is_empty.true
