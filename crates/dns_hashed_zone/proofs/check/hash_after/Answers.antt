use Rattle.std.proofs.Common.{arith}
use Rattle.dns_hashed_zone.proofs.SpanLaws.{read_last, read_more}
use Rattle.dns_hashed_zone.proofs.check.hash_after.Goals as goal

pub returns-then-place-nsecs : goal.returns-then-place-nsecs
returns-then-place-nsecs c = read_more c.args.nsecs.now c.args.place c.index-nsecs-place.result c.hash.result.now (omega arith) c.index-nsecs-place.is c.hash.ensures

pub returns : goal.returns
returns c = read_last c.args.nsecs.now c.args.place c.index-nsecs-0.result c.hash-2.result.now c.requires (omega arith) c.index-nsecs-0.is c.hash-2.ensures
