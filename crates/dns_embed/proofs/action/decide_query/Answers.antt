-- What was decided of the request that was made is decided of the message.
use Rattle.std.proofs.Common.{◌∙◌, ap, subst, IfOk}
use Rattle.dns_service.specs.Req.{Req}
use Rattle.dns_session.specs.Datagrams.{asks_nothing}
use Rattle.dns_embed.specs.Embedded.{IsDecided}
use Rattle.dns_embed.proofs.Decides.{taken-decided}
use Rattle.dns_embed.proofs.action.decide_query.Goals as goal

pub returns-in-Ok : goal.returns-in-Ok
returns-in-Ok c =
    let s = c.args.settings.now in
    let v = c.args.verdict.verdict in
    let asks = ap (λ (r : Req (Unit {0})). asks_nothing r.octets) c.in_ok-request.ensures ∙ c.requires in
    subst (λ (r : Req (Unit {0})). IfOk c.taken.result (IsDecided s v r)) c.in_ok-request.ensures
    (taken-decided s v c.in_ok-request.request c.decide.new.request c.in-Ok.decision c.taken.result c.in-Ok.ensures.answers c.in-Ok.ensures.passes c.in-Ok.ensures.kept asks c.taken.ensures)
