use Rattle.std.proofs.Common.{arith}
use Rattle.dns_denial.proofs.SearchLaws.{all_behind, is_last}
use Rattle.dns_denial.proofs.search.last_up_to.Goals as goal

pub returns-then-count-eq0 : goal.returns-then-count-eq0
returns-then-count-eq0 c = λ name k. all_behind c.args.nsecs.now name c.count_up_to-count.result c.if-count-eq0.true (c.count_up_to-count.ensures.point name k)

pub returns : goal.returns
returns c = λ name k.
    is_last c.args.nsecs.now name c.requires c.count_up_to-count.result c.index-nsecs-count.result (omega arith) c.count_up_to-count.ensures.bound c.index-nsecs-count.is (c.count_up_to-count.ensures.point name k)
