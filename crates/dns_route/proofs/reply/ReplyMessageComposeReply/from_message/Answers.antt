use Rattle.std.proofs.Common.{sym}
use Rattle.std.proofs.lemmas.Result.{err_from_is_err_and}
use Rattle.dns_route.proofs.ReplyLaws.{options_refused}
use Rattle.dns_route.proofs.reply.ReplyMessageComposeReply.from_message.Goals as goal

pub returns-in_err-kept_reply-in-Some : goal.returns-in_err-kept_reply-in-Some
returns-in_err-kept_reply-in-Some c =
    let p = err_from_is_err_and c.from_residual.result c.from_residual.ensures.1 in
    rw (p.1, p.2) (options_refused c.args.message.now c.in-Some.found c.in_err-kept_reply-in-Some.field-0.0 (sym c.in-Some.ensures) c.in_err-kept_reply-in-Some.ensures)
