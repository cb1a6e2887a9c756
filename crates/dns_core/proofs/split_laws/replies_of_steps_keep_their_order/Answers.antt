use Rattle.dns_core.specs.Outs.{placed_slate}
use Rattle.dns_core.specs.Placed.{placed}
use Rattle.dns_core.specs.ReplyTo.{Responds}
use Rattle.dns_core.specs.Sent.{sent}
use Rattle.dns_core.specs.Settings.{opening}
use Rattle.dns_core.specs.Trails.{messages_sent, no_trail, trail_after}
use Rattle.dns_core.specs.WrappedServing.{wrapped_serving}
use Rattle.dns_session.specs.Slate.{fresh}
use Rattle.dns_middleware.specs.Verdicts.{verdict_on}
use Rattle.dns_core.proofs.Origins.{from_answers}
use Rattle.dns_core.proofs.Replied.{refused_responds, reply_has}
use Rattle.dns_core.proofs.StepsTrail.{placed_kept}
use Rattle.dns_core.proofs.TrailRules.{reply_somewhere}
use Rattle.dns_core.proofs.split_laws.replies_of_steps_keep_their_order.Goals as goal

pub returns-clause-sent : goal.returns-clause-sent
returns-clause-sent c = λ answers settings n steps. (placed_kept answers settings n steps).went

pub returns-clause-waits : goal.returns-clause-waits
returns-clause-waits c = λ answers settings n steps. (placed_kept answers settings n steps).waiting

pub returns-clause-order : goal.returns-clause-order
returns-clause-order c = λ answers settings n k steps. (placed_kept answers settings n steps).order k

pub returns-clause-missing : goal.returns-clause-missing
returns-clause-missing c = λ answers settings n k poll steps r at lt ne.
    let s = placed_slate answers settings n steps in
    reply_somewhere answers s.phase k poll s.requests r (trail_after answers (fresh (opening settings)) no_trail (placed settings n steps)) (placed_kept answers settings n steps).has at lt ne

pub returns-clause-responds : goal.returns-clause-responds
returns-clause-responds c = λ settings given verdicts n steps.
    let a = wrapped_serving settings given verdicts in
    from_answers a
    (λ m r k. reply_has (Responds r.octets) m r.octets (a.answer r k) (c.wrapped_replies_respond.ensures settings given (verdict_on verdicts) r k) (refused_responds r.octets m))
    (trail_after a (fresh (opening settings)) no_trail (placed settings n steps)).went (messages_sent (sent a settings (placed settings n steps))) (placed_kept a settings n steps).went
