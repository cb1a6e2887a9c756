use Rattle.std.proofs.Common.{◌≡◌, Option, Result, Ok, Err, ap, subst, sym, ◌∙◌}
use Rattle.std.specs.Option.{option_copied}
use Rattle.std.proofs.lemmas.Result.{err_from_is_err_and}
use Rattle.dns_name.specs.declared.error.ParseError.{ParseError}
use Rattle.dns_base.specs.Msg.{Msg}
use Rattle.dns_base.specs.Standing.{GivesParsed}
use Rattle.dns_opt.specs.OptRecords.{OptState}
use Rattle.dns_service.specs.Copied.{copied}
use Rattle.dns_service.specs.LastOpt.{and_opt}
use Rattle.dns_route.specs.ReplyMessage.{Composes, reply_message, reply_with_opt}
use Rattle.dns_route.proofs.ReplyLaws.{copy_refused}
use Rattle.dns_route.proofs.reply.ReplyMessage.read_again.Goals as goal

pub returns-in_err-copied : goal.returns-in_err-copied
returns-in_err-copied c =
    let p = err_from_is_err_and c.from_residual.result c.from_residual.ensures.1 in
    let g = subst (λ l. GivesParsed (Err c.in_err-copied.field-0.0) (copied l)) c.message.ensures c.in_err-copied.ensures in
    rw (p.1, p.2) (copy_refused c.args.self.now.opt (copied c.args.self.now.octets) c.in_err-copied.field-0.0 g)

pub returns : goal.returns
returns c =
    let m = c.in_ok-copied.copied in
    let g : copied c.args.self.now.octets ≡ Ok m = subst (λ l. copied l ≡ Ok m) c.message.ensures c.in_ok-copied.ensures in
    let p : option_copied c.as_ref.result ≡ c.args.self.now.opt = c.as_ref.ensures.value ∙ ap (λ r. r.opt) c.self.view_is in
    let e : reply_message c.args.self.now ≡ Ok (and_opt m (option_copied c.as_ref.result)) = ap (reply_with_opt c.args.self.now.opt) g ∙ ap (λ (k : Option OptState). Ok (and_opt m k)) (sym p) in
    subst (λ (r : Result Msg ParseError). Composes r c.composed.result) (sym e) c.composed.ensures
