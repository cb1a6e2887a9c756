use Rattle.std.proofs.Common.{sym, ◌∙◌, arith}
use Rattle.dns_zone_tree.specs.TreeErrors.{is_crowded}
use Rattle.dns_zone.proofs.CheckLaws.{found_first, found_none}
use Rattle.dns_zone_tree.proofs.check.first_crowded.Goals as goal

pub returns-then-branch : goal.returns-then-branch
returns-then-branch c =
    found_first (is_crowded c.args.records.now) c.args.records.now c.each.index c.index-records-index.result c.each-test.true c.index-records-index.is c.each.invariant
    (sym (c.in_ok-is_crowded.ensures c.args.records.now c.requires) ∙ c.if-branch.true)

pub returns : goal.returns
returns c = found_none (is_crowded c.args.records.now) c.args.records.now c.each.index (omega arith) c.each.invariant
