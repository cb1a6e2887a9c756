use Rattle.std.proofs.Common.{arith}
use Rattle.dns_hashed_zone.proofs.SpanLaws.{links_end, links_more}
use Rattle.dns_hashed_zone.proofs.check.first_unlinked.Goals as goal

pub returns-then-not-leads_to : goal.returns-then-not-leads_to
returns-then-not-leads_to c =
    links_end c.args.nsecs.now c.each.place c.index-nsecs-place.result c.hash_after.result.now (omega arith) c.index-nsecs-place.is c.hash_after.ensures c.if-not-leads_to.ensures c.each.invariant

pub each-preserved : goal.each-preserved
each-preserved c =
    links_more c.args.nsecs.now c.each.place c.index-nsecs-place.result c.hash_after.result.now (omega arith) c.index-nsecs-place.is c.hash_after.ensures c.if-not-leads_to.ensures c.each.invariant
