use Rattle.std.proofs.lemmas.Result.{err_from_is_err_and}
use Rattle.dns_base.proofs.BuildLaws.{header_refused}
use Rattle.dns_base.proofs.builder.assembled.questions_built.Goals as goal

pub returns-in_err-builder : goal.returns-in_err-builder
returns-in_err-builder c =
    let p = err_from_is_err_and c.from_residual.result c.from_residual.ensures.1 in
    rw (p.1, p.2) (header_refused c.args.header c.args.questions.now c.in_err-builder.field-0.0 c.in_err-builder.ensures)
