use Rattle.dns_core.specs.ReplyTo.{Responds}
use Rattle.dns_core.specs.Sent.{sent, slate}
use Rattle.dns_core.specs.Own.{own}
use Rattle.dns_core.specs.Settings.{opening}
use Rattle.dns_core.specs.Trails.{messages_sent, no_trail, trail_after}
use Rattle.dns_core.specs.WrappedServing.{wrapped_serving}
use Rattle.dns_session.specs.Slate.{fresh}
use Rattle.dns_middleware.specs.Verdicts.{verdict_on}
use Rattle.dns_core.proofs.Origins.{from_answers}
use Rattle.dns_core.proofs.Replied.{refused_responds, reply_has}
use Rattle.dns_core.proofs.TrailRules.{client_kept, reply_somewhere}
use Rattle.dns_core.proofs.laws.replies_keep_their_order.Goals as goal

pub returns-clause-sent : goal.returns-clause-sent
returns-clause-sent c = λ answers settings n es. (client_kept answers settings n es).went

pub returns-clause-waits : goal.returns-clause-waits
returns-clause-waits c = λ answers settings n es. (client_kept answers settings n es).waiting

pub returns-clause-order : goal.returns-clause-order
returns-clause-order c = λ answers settings n k es. (client_kept answers settings n es).order k

pub returns-clause-missing : goal.returns-clause-missing
returns-clause-missing c = λ answers settings n k poll es r at lt ne.
    let s = slate answers settings n es in
    reply_somewhere answers s.phase k poll s.requests r (trail_after answers (fresh (opening settings)) no_trail (own n es)) (client_kept answers settings n es).has at lt ne

pub returns-clause-responds : goal.returns-clause-responds
returns-clause-responds c = λ settings given verdicts n es.
    let a = wrapped_serving settings given verdicts in
    from_answers a
    (λ m r k. reply_has (Responds r.octets) m r.octets (a.answer r k) (c.wrapped_replies_respond.ensures settings given (verdict_on verdicts) r k) (refused_responds r.octets m))
    (trail_after a (fresh (opening settings)) no_trail (own n es)).went (messages_sent (sent a settings (own n es))) (client_kept a settings n es).went
