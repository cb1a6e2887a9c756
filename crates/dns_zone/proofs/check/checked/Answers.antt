use Rattle.std.proofs.lemmas.Result.{err_from_is_err_and}
use Rattle.dns_zone.proofs.ErrorLaws.{refused_list}
use Rattle.dns_zone.proofs.check.checked.Goals as goal

pub returns-in_err-check_list : goal.returns-in_err-check_list
returns-in_err-check_list c =
    let p = err_from_is_err_and c.from_residual.result c.from_residual.ensures.1 in
    rw (p.1, p.2) (λ z. refused_list c.args.apex.now c.args.records.now z c.in_err-check_list.field-0.0 c.in_err-check_list.ensures)
