use Rattle.dns_session.specs.Outputs.{outputs_in}
use Rattle.dns_session.specs.Rule.{rule}
use Rattle.dns_framing.specs.PolledRequest.{request_answer}
use Rattle.dns_session.proofs.Left.{led_follows, left_follows}
use Rattle.dns_session.proofs.Stepped.{in_leads, in_leads_on}
use Rattle.dns_session.proofs.Unheard.{write_unheard}
use Rattle.dns_session.proofs.states.write_state.Goals as goal

pub returns-in-Open-clause-follows : goal.returns-in-Open-clause-follows
returns-in-Open-clause-follows g c = λ answers client e at_is kind_is.
    let a = request_answer g.W.Future.ReplyFuture.answer g.W.Stream.ReplyStream.answer in
    let w = c.write-outcome in
    led_follows a answers client c.args.state.now c.follow.new.state c.in-Open.connection w.new.self w.result (outputs_in client c.follow.result) (rule answers e) c.in-Open.is
    (in_leads a answers c.in-Open.connection w.new.self w.result e (rw (kind_is, at_is) (w.ensures answers))) (c.follow.ensures.outs client) c.follow.ensures.state

pub returns-in-Flushing-clause-follows : goal.returns-in-Flushing-clause-follows
returns-in-Flushing-clause-follows g c = λ answers client e at_is kind_is.
    let a = request_answer g.W.Future.ReplyFuture.answer g.W.Stream.ReplyStream.answer in
    let w = c.write-outcome-in-Flushing in
    let o = c.follow-in-Flushing in
    left_follows a answers client c.args.state.now o.new.state c.in-Flushing.connection w.new.self w.result (outputs_in client o.result) (rule answers e) c.in-Flushing.is
    (in_leads_on answers c.in-Flushing.connection w.new.self w.result e (rw kind_is w.ensures)) (o.ensures.outs client) o.ensures.state

pub returns-in_default-clause-follows : goal.returns-in_default-clause-follows
returns-in_default-clause-follows g c = λ answers client e at_is kind_is.
    write_unheard (request_answer g.W.Future.ReplyFuture.answer g.W.Stream.ReplyStream.answer) answers client c.args.state.now e c.args.took c.in_default.not-Open c.in_default.not-Flushing kind_is
