use Rattle.std.proofs.Common.{◌≡◌, true, false}
use Rattle.std.proofs.lemmas.Result.{IfOk-weaker}
use Rattle.dns_session.specs.Rule.{rule}
use Rattle.dns_framing.specs.PolledRequest.{request_answer}
use Rattle.dns_session.proofs.Left.{left_follows}
use Rattle.dns_session.proofs.states.step_unopened.Goals as goal

pub returns-in-Open-clause-follows : goal.returns-in-Open-clause-follows
returns-in-Open-clause-follows g c = let no : true ≡ false = rw c.in-Open.is at c.requires in cc

pub returns-in-Flushing-clause-follows : goal.returns-in-Flushing-clause-follows
returns-in-Flushing-clause-follows g c =
    let a = request_answer g.W.Future.ReplyFuture.answer g.W.Stream.ReplyStream.answer in
    IfOk-weaker c.carry_out.result _ _ (λ outs said answers. left_follows a answers c.args.client c.args.state.now c.carry_out.new.state c.in-Flushing.connection c.step-outcome.new.self c.step-outcome.result outs.items (rule answers c.args.event.now) c.in-Flushing.is (c.step-outcome.ensures answers) said c.carry_out.ensures.state) c.carry_out.ensures.outs
