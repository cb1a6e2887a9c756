use Rattle.std.proofs.Common.{◌≡◌, subst, Err}
use Rattle.std.proofs.lemmas.Result.{err_from_is_err_and}
use Rattle.dns_base.specs.declared.draft.Section.TheVariants.{Answer, Authority}
use Rattle.dns_base.specs.Built.{Built}
use Rattle.dns_base.specs.Builds.{Builds, with_records}
use Rattle.dns_base.proofs.BuildLaws.{questions_refused, answers_refused, authority_refused}
use Rattle.dns_base.proofs.builder.assembled.assemble.Goals as goal

pub returns-in_err-asked : goal.returns-in_err-asked
returns-in_err-asked c =
    let p = err_from_is_err_and c.from_residual.result c.from_residual.ensures.1 in
    rw (p.1, p.2) (questions_refused c.args.header c.args.questions.now c.args.answers.now c.args.authority.now c.args.additional.now c.in_err-asked.field-0.0 c.in_err-asked.ensures)

pub returns-in_err-answered : goal.returns-in_err-answered
returns-in_err-answered c =
    let p = err_from_is_err_and c.from_residual-in_err-answered.result c.from_residual-in_err-answered.ensures.1 in
    rw (p.1, p.2) (answers_refused c.args.header c.args.questions.now c.args.answers.now c.args.authority.now c.args.additional.now c.in_ok-asked.asked c.in_err-answered.field-0.0 c.in_ok-asked.ensures.0 (subst (λ (k : Built). Builds (with_records Answer k c.args.answers.now) (Err c.in_err-answered.field-0.0)) c.answer.ensures c.in_err-answered.ensures))

pub returns-in_err-referred : goal.returns-in_err-referred
returns-in_err-referred c =
    let p = err_from_is_err_and c.from_residual-in_err-referred.result c.from_residual-in_err-referred.ensures.1 in
    rw (p.1, p.2) (authority_refused c.args.header c.args.questions.now c.args.answers.now c.args.authority.now c.args.additional.now c.in_ok-asked.asked c.in_ok-answered.answered c.in_err-referred.field-0.0 c.in_ok-asked.ensures.0 (subst (λ (k : Built). ◌≡◌ {A = Built} c.in_ok-answered.answered (with_records Answer k c.args.answers.now)) c.answer.ensures c.in_ok-answered.ensures.0) (subst (λ (k : Built). Builds (with_records Authority k c.args.authority.now) (Err c.in_err-referred.field-0.0)) c.authority.ensures c.in_err-referred.ensures))
