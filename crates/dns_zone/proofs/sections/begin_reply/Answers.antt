use Rattle.std.proofs.lemmas.Result.{err_from_is_err_and}
use Rattle.dns_zone.proofs.BuildLaws.{start_refused}
use Rattle.dns_zone.proofs.sections.begin_reply.Goals as goal

pub returns-in_err-reply : goal.returns-in_err-reply
returns-in_err-reply c =
    let p = err_from_is_err_and c.from_residual-in_err-reply.result c.from_residual-in_err-reply.ensures.1 in
    rw (p.1, p.2) (start_refused c.in_ok-message.message c.args.query.now c.args.rcode c.args.aa c.in_err-reply.field-0.0 c.in_ok-message.ensures c.in_err-reply.ensures)
