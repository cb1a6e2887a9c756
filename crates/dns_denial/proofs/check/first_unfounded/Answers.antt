use Rattle.std.proofs.Common.{sym, ◌∙◌, arith}
use Rattle.dns_denial.specs.Checks.{is_unfounded}
use Rattle.dns_denial.proofs.ListLaws.{found_first, found_none}
use Rattle.dns_denial.proofs.check.first_unfounded.Goals as goal

pub returns-then-branch : goal.returns-then-branch
returns-then-branch c =
    found_first (is_unfounded c.args.zone.now) c.args.nsecs.now c.each.index c.index-nsecs-index.result c.each-test.true c.index-nsecs-index.is c.each.invariant (sym c.in_ok-is_unfounded.ensures ∙ c.if-branch.true)

pub returns : goal.returns
returns c = found_none (is_unfounded c.args.zone.now) c.args.nsecs.now c.each.index (omega arith) c.each.invariant
