use Rattle.std.proofs.Common.{sym, ◌∙◌, arith}
use Rattle.dns_zone.specs.Defects.{has_defect}
use Rattle.dns_zone.proofs.CheckLaws.{found_first, found_none}
use Rattle.dns_zone.proofs.check.first_with.Goals as goal

pub returns-then-is_in : goal.returns-then-is_in
returns-then-is_in c =
    found_first (has_defect c.args.defect c.args.apex.now) c.args.records.now c.each.index c.index-records-index.result c.each-test.true c.index-records-index.is c.each.invariant (sym c.is_in.ensures ∙ c.if-is_in.true)

pub returns : goal.returns
returns c = found_none (has_defect c.args.defect c.args.apex.now) c.args.records.now c.each.index (omega arith) c.each.invariant
