use Rattle.std.proofs.Common.{arith}
use Rattle.dns_hashed_zone.proofs.PlaceLaws.{at_none, at_some}
use Rattle.dns_hashed_zone.proofs.search.nearest.Goals as goal

pub returns-then-count-eq0-clause-place : goal.returns-then-count-eq0-clause-place
returns-then-count-eq0-clause-place c = at_none c.args.nsecs.now c.args.hash.now c.count_up_to-count.result c.count_up_to-count.ensures.count c.if-count-eq0.true

pub returns-clause-place : goal.returns-clause-place
returns-clause-place c = at_some c.args.nsecs.now c.args.hash.now c.count_up_to-count.result c.count_up_to-count.ensures.count (omega arith)
