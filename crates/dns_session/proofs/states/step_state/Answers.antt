use Rattle.std.proofs.lemmas.Result.{IfOk-weaker}
use Rattle.dns_session.specs.Rule.{rule}
use Rattle.dns_session.specs.Serving.{serving}
use Rattle.dns_framing.specs.PolledRequest.{request_answer}
use Rattle.dns_session.proofs.Left.{led_follows, unopened}
use Rattle.dns_session.proofs.states.step_state.Goals as goal

pub returns-in-Ok-clause-follows : goal.returns-in-Ok-clause-follows
returns-in-Ok-clause-follows g c =
    let a = request_answer g.W.Future.ReplyFuture.answer g.W.Stream.ReplyStream.answer in
    let b = serving (g.W.SharedService.answer c.args.service.now) (g.W.SharedService.hint c.args.service.now) in
    IfOk-weaker c.carry_out.result _ _ (λ outs said. led_follows a b c.args.client c.args.state.now c.carry_out.new.state c.in-Open.connection c.step.new.self c.in-Ok.outcome outs.items (rule b c.args.event.now) c.in-Open.is c.in-Ok.ensures said c.carry_out.ensures.state) c.carry_out.ensures.outs

pub returns-in_default-clause-follows : goal.returns-in_default-clause-follows
returns-in_default-clause-follows g c =
    let b = serving (g.W.SharedService.answer c.args.service.now) (g.W.SharedService.hint c.args.service.now) in
    IfOk-weaker c.step_unopened.result _ _ (λ outs follows. follows b) c.step_unopened.ensures.follows

pub step_unopened-requires : goal.step_unopened-requires
step_unopened-requires g c = unopened c.args.state.now c.in_default.not-Open
