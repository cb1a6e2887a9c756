use Rattle.std.proofs.Common.{◌≡◌, ◌≤◌, length, Ok, rules, arith}
use Rattle.dns_base.specs.Read.{question_at}
use Rattle.dns_service.proofs.CopyLaws.{questions_begun, one_question_more, questions_done}
use Rattle.dns_service.proofs.copied.questions_from.Goals as goal

pub each-init : goal.each-init
each-init c = questions_begun c.args.message.now c.args.count c.args.start _ c.new-questions.ensures.items c.requires

pub each-preserved : goal.each-preserved
each-preserved c =
    let f : question_at c.args.message.now c.each.at ≡ Ok (c.in_ok-item.item, c.in_ok-item.end) = first_of (search rules, cc) in
    let g : c.in_ok-question.question ≡ c.in_ok-item.item = first_of (search rules, cc) in
    let n : c.in_ok-item.end ≤ length c.args.message.now = first_of (search rules, omega arith) in
    one_question_more c.args.message.now c.args.count c.args.start c.each.questions.items _ c.each.left c.each.at (c.in_ok-item.item, c.in_ok-item.end) c.in_ok-question.question c.each.invariant c.each-test.true f g n c.in_ok-push.ensures.items

pub returns-clause-value : goal.returns-clause-value
returns-clause-value c = questions_done c.args.message.now c.args.count c.args.start c.each.questions.items c.each.left c.each.at c.each.invariant c.each-test.false
