use Rattle.std.proofs.Common.{true, false, ap, sym, ◌∙◌}
use Rattle.dns_replies.proofs.CutLaws.{questions_fit, questions_past, questions_never, copied_given}
use Rattle.dns_replies.proofs.cutting.with_questions.Goals as goal

pub returns-then-limit-lt12 : goal.returns-then-limit-lt12
returns-then-limit-lt12 c = questions_never c.args.message.now.message c.args.limit c.if-limit-lt12.true

pub returns-then-branch : goal.returns-then-branch
returns-then-branch c =
    let m = c.args.message.now.message in
    let k = copied_given m c.args.limit c.in_ok-questions.questions c.copy_questions.new.target c.questions.result c.in_ok-copy_questions.field-0 true c.questions.ensures.questions c.in_ok-questions.ensures c.in_ok-copy_questions.ensures c.if-branch.true in
    questions_fit m c.args.limit c.additional.result c.if-limit-lt12.false (k ∙ ap (λ x. (x, true)) (sym c.additional.ensures))

pub returns-else-branch : goal.returns-else-branch
returns-else-branch c =
    let m = c.args.message.now.message in
    let k = copied_given m c.args.limit c.in_ok-questions.questions c.copy_questions.new.target c.questions.result c.in_ok-copy_questions.field-0 false c.questions.ensures.questions c.in_ok-questions.ensures c.in_ok-copy_questions.ensures c.if-branch.false in
    questions_past m c.args.limit c.copy_questions.new.target k
