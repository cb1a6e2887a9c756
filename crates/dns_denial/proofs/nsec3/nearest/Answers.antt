use Rattle.std.proofs.Common.{arith}
use Rattle.dns_denial.proofs.HashSearch.{nearest_before, nearest_wrapped}
use Rattle.dns_denial.proofs.nsec3.nearest.Goals as goal

pub returns-then-count-eq0 : goal.returns-then-count-eq0
returns-then-count-eq0 c = nearest_wrapped c.args.nsecs.now c.args.hash.now c.requires.sorted c.count_up_to-count.result c.count_up_to-count.ensures.point c.index-nsecs-nsecs.result c.if-count-eq0.true c.requires.some c.index-nsecs-nsecs.is

pub returns : goal.returns
returns c = nearest_before c.args.nsecs.now c.args.hash.now c.requires.sorted c.count_up_to-count.result c.count_up_to-count.ensures.point c.index-nsecs-count.result (omega arith) c.count_up_to-count.ensures.bound c.index-nsecs-count.is
