use Rattle.std.proofs.Common.{◌≡◌, ◌≤◌, length, Ok, rules, arith}
use Rattle.dns_base.specs.CopiedRecord.{copied_record}
use Rattle.dns_base.specs.Standing.{standing_at}
use Rattle.dns_service.proofs.CopyLaws.{records_begun, one_record_more, records_done}
use Rattle.dns_service.proofs.copied.records_from.Goals as goal

pub each-init : goal.each-init
each-init c = records_begun c.args.message.now c.args.count c.args.start _ c.new-records.ensures.items c.requires

pub each-preserved : goal.each-preserved
each-preserved c =
    let f : standing_at c.args.message.now c.each.at ≡ Ok (c.in_ok-item.item, c.in_ok-item.end) = first_of (search rules, cc) in
    let g : copied_record c.in_ok-item.item ≡ Ok c.in_ok-copy.copy = first_of (search rules, cc) in
    let n : c.in_ok-item.end ≤ length c.args.message.now = first_of (search rules, omega arith) in
    one_record_more c.args.message.now c.args.count c.args.start c.each.records.items _ c.each.left c.each.at (c.in_ok-item.item, c.in_ok-item.end) c.in_ok-copy.copy c.each.invariant c.each-test.true f g n c.in_ok-push.ensures.items

pub returns-clause-value : goal.returns-clause-value
returns-clause-value c = records_done c.args.message.now c.args.count c.args.start c.each.records.items c.each.left c.each.at c.each.invariant c.each-test.false
