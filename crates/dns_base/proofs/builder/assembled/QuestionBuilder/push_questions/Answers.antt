use Rattle.std.proofs.Common.{◌<◌, length, arith}
use Rattle.std.proofs.lemmas.Result.{err_from_is_err_and}
use Rattle.dns_base.specs.Replies.{with_questions}
use Rattle.dns_base.proofs.BuildLaws.{question_refused_at}
use Rattle.dns_base.proofs.builder.assembled.QuestionBuilder.push_questions.Goals as goal

pub returns-in_err-push : goal.returns-in_err-push
returns-in_err-push c =
    let p = err_from_is_err_and c.from_residual.result c.from_residual.ensures.1 in
    let l : c.each.item-index < length c.args.questions.now = omega arith in
    rw (p.1, p.2) (question_refused_at c.each.self c.push.new.self c.each.item-index c.args.questions.now c.item-item.result (with_questions c.args.self.now c.args.questions.now) c.push.new.self c.in_err-push.field-0.0 l c.item-item.is c.in_err-push.ensures c.each.invariant.same)
