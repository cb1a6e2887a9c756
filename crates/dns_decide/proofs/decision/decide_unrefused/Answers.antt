-- The cookie layer decides if it has a reply, and else the target or the service.
use Rattle.std.proofs.Common.{◌≡◌, ℕ, Option, ◌∙◌, ap, sym, refl}
use Rattle.dns_service.specs.Transport.{hint_of}
use Rattle.dns_layers.specs.Edns.{passed_by, transport_by}
use Rattle.dns_layers.specs.Refusals.{size_by}
use Rattle.dns_layers.specs.Verdicts.{verdict_on}
use Rattle.dns_middleware.specs.WrappedStreams.{wrap_by}
use Rattle.dns_middleware.proofs.Called.{if-ok, no-own, past-cookies, rule-passed, size-read}
use Rattle.dns_decide.specs.Decided.{decided}
use Rattle.dns_decide.proofs.decision.decide_unrefused.Goals as goal

pub returns-in-Ok-clause-answers : goal.returns-in-Ok-clause-answers
returns-in-Ok-clause-answers g c =
    let r = c.args.request.now in
    let s = c.args.settings.now in
    let verdicts = verdict_on (g.N.Notifiable.verdict c.args.target.now) in
    let size = size-read s r _ _ c.requires.asked c.pass_plan-plan.ensures.size in
    let post = rule-passed s r r.transport _ (size_by s c.args.asked.now) (hint_of (transport_by (size_by s c.args.asked.now) r.transport)) _ refl c.requires.asked (size-read s r _ _ c.requires.asked refl) refl c.pass_plan-plan.ensures.post in
    let own = no-own (wrap_by c.pass_plan-plan.result.post) _ _ c.in-Ok-None.ensures c.in-Ok-None.field-0-is in
    if-ok c.ask_or_pass.result (λ d h svc k.
    ap (λ (n : Option ℕ). decided g.N.Future.VerdictFuture.verdict (svc (passed_by n r)) d k) (sym size)
    ∙ h svc k
    ∙ past-cookies s svc verdicts r k _ _ c.in-Ok.notice own size post c.in-Ok.ensures) c.ask_or_pass.ensures.answers
