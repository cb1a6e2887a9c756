use Rattle.std.proofs.Common.{sym, ◌∙◌, arith}
use Rattle.dns_denial.specs.Checks.{is_unlisted}
use Rattle.dns_denial.proofs.ListLaws.{found_first, found_none}
use Rattle.dns_denial.proofs.check.first_unlisted.Goals as goal

pub returns-then-branch : goal.returns-then-branch
returns-then-branch c =
    found_first (is_unlisted c.args.zone.now c.args.nsecs.now) c.args.records.now c.each.index c.index-records-index.result c.each-test.true c.index-records-index.is c.each.invariant.found (sym c.in_ok-is_unlisted.ensures ∙ c.if-branch.true)

pub returns : goal.returns
returns c = found_none (is_unlisted c.args.zone.now c.args.nsecs.now) c.args.records.now c.each.index (omega arith) c.each.invariant.found
