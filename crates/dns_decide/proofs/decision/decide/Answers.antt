-- A request that isn't refused is taken as the others are.
use Rattle.std.proofs.Common.{◌∙◌, None}
use Rattle.dns_layers.specs.Verdicts.{verdict_on}
use Rattle.dns_middleware.proofs.Called.{if-ok, refusal-read, unrefused}
use Rattle.dns_decide.proofs.decision.decide.Goals as goal

pub returns-in-None-clause-answers : goal.returns-in-None-clause-answers
returns-in-None-clause-answers g c =
    let r = c.args.request.now in
    let s = c.args.settings.now in
    let refused = refusal-read s r c.transport_ctx.result.now _ None c.transport_ctx.ensures c.read_request-asked.ensures c.in-None.ensures in
    if-ok c.decide_unrefused.result (λ d h svc k. h svc k ∙ unrefused s svc (verdict_on (g.N.Notifiable.verdict c.args.target.now)) r k refused) c.decide_unrefused.ensures.answers
