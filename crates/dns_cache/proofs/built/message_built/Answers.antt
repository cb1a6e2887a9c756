use Rattle.std.proofs.Common.{◌≡◌, [], ◌∷◌, subst, Err}
use Rattle.std.proofs.lemmas.Result.{err_from_is_err_and}
use Rattle.dns_base.specs.declared.draft.Section.TheVariants.{Answer, Authority}
use Rattle.dns_base.specs.Built.{Built}
use Rattle.dns_base.specs.Builds.{Builds, with_records}
use Rattle.dns_base.proofs.BuildLaws.{questions_refused, answers_refused, authority_refused}
use Rattle.dns_cache.specs.AgedRecords.{aged_records}
use Rattle.dns_cache.proofs.built.message_built.Goals as goal

pub returns-in_err-begun : goal.returns-in_err-begun
returns-in_err-begun c =
    let s = c.args.sections in
    let age = c.args.age in
    let an = aged_records age s.answers.marks.now s.answers.octets.now in
    let ns = aged_records age s.authority.marks.now s.authority.octets.now in
    let ar = aged_records age s.additional.marks.now s.additional.octets.now in
    let p = err_from_is_err_and c.from_residual.result c.from_residual.ensures.1 in
    rw (p.1, p.2) (questions_refused c.args.header (c.args.question.now ∷ []) an ns ar c.in_err-begun.field-0.0 c.in_err-begun.ensures)

pub returns-in_err-answered : goal.returns-in_err-answered
returns-in_err-answered c =
    let s = c.args.sections in
    let age = c.args.age in
    let an = aged_records age s.answers.marks.now s.answers.octets.now in
    let ns = aged_records age s.authority.marks.now s.authority.octets.now in
    let ar = aged_records age s.additional.marks.now s.additional.octets.now in
    let p = err_from_is_err_and c.from_residual-in_err-answered.result c.from_residual-in_err-answered.ensures.1 in
    rw (p.1, p.2) (answers_refused c.args.header (c.args.question.now ∷ []) an ns ar c.in_ok-begun.begun c.in_err-answered.field-0.0 c.in_ok-begun.ensures.0
    (subst (λ (k : Built). Builds (with_records Answer k an) (Err c.in_err-answered.field-0.0)) c.answer.ensures c.in_err-answered.ensures))

pub returns-in_err-referred : goal.returns-in_err-referred
returns-in_err-referred c =
    let s = c.args.sections in
    let age = c.args.age in
    let an = aged_records age s.answers.marks.now s.answers.octets.now in
    let ns = aged_records age s.authority.marks.now s.authority.octets.now in
    let ar = aged_records age s.additional.marks.now s.additional.octets.now in
    let p = err_from_is_err_and c.from_residual-in_err-referred.result c.from_residual-in_err-referred.ensures.1 in
    rw (p.1, p.2) (authority_refused c.args.header (c.args.question.now ∷ []) an ns ar c.in_ok-begun.begun c.in_ok-answered.answered c.in_err-referred.field-0.0 c.in_ok-begun.ensures.0
    (subst (λ (k : Built). ◌≡◌ {A = Built} c.in_ok-answered.answered (with_records Answer k an)) c.answer.ensures c.in_ok-answered.ensures.0)
    (subst (λ (k : Built). Builds (with_records Authority k ns) (Err c.in_err-referred.field-0.0)) c.authority.ensures c.in_err-referred.ensures))
