use Rattle.std.proofs.Common.{sym, ◌∙◌, arith}
use Rattle.dns_zone_tree.specs.TreeErrors.{has_defect}
use Rattle.dns_zone.proofs.CheckLaws.{found_first, found_none}
use Rattle.dns_zone_tree.proofs.ErrorLaws.{lawful_by}
use Rattle.dns_zone_tree.proofs.check.first_with.Goals as goal

pub is_in-requires : goal.is_in-requires
is_in-requires c = lawful_by c.args.records.now c.each.index c.index-records-index.result c.requires c.each-test.true c.index-records-index.is

pub returns-then-is_in : goal.returns-then-is_in
returns-then-is_in c =
    found_first (has_defect c.args.fault c.args.apex.now) c.args.records.now c.each.index c.index-records-index.result c.each-test.true c.index-records-index.is c.each.invariant (sym c.is_in.ensures ∙ c.if-is_in.true)

pub returns : goal.returns
returns c = found_none (has_defect c.args.fault c.args.apex.now) c.args.records.now c.each.index (omega arith) c.each.invariant
