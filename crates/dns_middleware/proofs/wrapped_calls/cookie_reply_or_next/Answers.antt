-- The cookie layer answers if it has a reply, and else the target or the given service.
use Rattle.std.proofs.Common.{◌∙◌, refl}
use Rattle.dns_service.specs.Transport.{hint_of}
use Rattle.dns_layers.specs.Edns.{transport_by}
use Rattle.dns_layers.specs.Refusals.{size_by}
use Rattle.dns_layers.specs.Verdicts.{verdict_on}
use Rattle.dns_middleware.specs.WrappedStreams.{wrap_by}
use Rattle.dns_middleware.proofs.Called.{if-ok, no-own, own-found, past-cookies, rule-passed, size-read}
use Rattle.dns_middleware.proofs.wrapped_calls.cookie_reply_or_next.Goals as goal

pub returns-in-Ok-clause-answers : goal.returns-in-Ok-clause-answers
returns-in-Ok-clause-answers g c =
    let r = c.args.request.now in
    let w = c.args.wrapped.now in
    let s = w.settings in
    let size = size-read s r _ _ c.requires.asked c.requires.size in
    let post = rule-passed s r r.transport _ (size_by s c.args.asked.now) (hint_of (transport_by (size_by s c.args.asked.now) r.transport)) _ refl c.requires.asked (size-read s r _ _ c.requires.asked refl) refl c.requires.post in
    let own = no-own (wrap_by c.args.plan.post) _ _ c.requires.found c.in-None.is in
    if-ok c.notify_or_service.result (λ f h k. h k ∙ past-cookies s (g.S.Service.answer w.service) (verdict_on (g.N.Notifiable.verdict w.target)) r k _ _ c.in-Ok.notice own size post c.in-Ok.ensures) c.notify_or_service.ensures.answers

pub returns-in-Some-clause-answers : goal.returns-in-Some-clause-answers
returns-in-Some-clause-answers g c =
    let r = c.args.request.now in
    let w = c.args.wrapped.now in
    let s = w.settings in
    let post = rule-passed s r r.transport _ (size_by s c.args.asked.now) (hint_of (transport_by (size_by s c.args.asked.now) r.transport)) _ refl c.requires.asked (size-read s r _ _ c.requires.asked refl) refl c.requires.post in
    if-ok c.own.result (λ f h k. h k ∙ own-found s (g.S.Service.answer w.service) (verdict_on (g.N.Notifiable.verdict w.target)) r k c.args.plan.post _ c.in-Some.reply c.requires.found c.in-Some.is post) c.own.ensures.answers
