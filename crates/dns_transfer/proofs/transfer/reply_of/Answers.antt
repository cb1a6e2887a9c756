use Rattle.std.proofs.lemmas.Result.{err_from_is_err_and}
use Rattle.dns_transfer.proofs.PackLaws.{bunch_refused, bunch_short}
use Rattle.dns_transfer.proofs.transfer.reply_of.Goals as goal

pub returns-in_err-reply : goal.returns-in_err-reply
returns-in_err-reply c =
    let p = err_from_is_err_and c.from_residual.result c.from_residual.ensures.1 in
    rw (p.1, p.2) (bunch_refused c.args.query.now c.args.bunch.now c.in_err-reply.field-0.0 c.in_err-reply.ensures)

pub returns-in_err-push_records : goal.returns-in_err-push_records
returns-in_err-push_records c =
    let p = err_from_is_err_and c.from_residual-in_err-push_records.result c.from_residual-in_err-push_records.ensures.1 in
    rw (p.1, p.2) (bunch_short c.args.query.now c.args.bunch.now c.in_ok-reply.reply c.push_records.new.self c.in_err-push_records.field-0.0 c.in_ok-reply.ensures.0 c.in_err-push_records.ensures)
