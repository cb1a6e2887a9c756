-- A request that isn't refused is taken as the others are.
use Rattle.std.proofs.Common.{◌∙◌, refl, None}
use Rattle.dns_layers.specs.Verdicts.{verdict_on}
use Rattle.dns_middleware.proofs.Called.{if-ok, refusal-read, unrefused}
use Rattle.dns_middleware.proofs.wrapped.WrappedService.call.Goals as goal

pub returns-in-None-clause-answers : goal.returns-in-None-clause-answers
returns-in-None-clause-answers g c =
    let r = c.args.request.now in
    let s = c.args.self.now.settings in
    let refused = refusal-read s r r.transport _ None refl c.read_request-asked.ensures c.in-None.ensures in
    if-ok c.not_refused.result (λ f h k. h k ∙ unrefused s (g.S.Service.answer c.args.self.now.service) (verdict_on (g.N.Notifiable.verdict c.args.self.now.target)) r k refused) c.not_refused.ensures.answers
