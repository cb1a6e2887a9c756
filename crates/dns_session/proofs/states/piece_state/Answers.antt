use Rattle.dns_session.specs.Outputs.{outputs_in}
use Rattle.dns_session.specs.Rule.{rule}
use Rattle.dns_session.specs.Serving.{serving}
use Rattle.dns_framing.specs.PolledRequest.{request_answer}
use Rattle.dns_session.proofs.Left.{led_follows}
use Rattle.dns_session.proofs.Stepped.{in_leads}
use Rattle.dns_session.proofs.Unheard.{piece_unheard}
use Rattle.dns_session.proofs.states.piece_state.Goals as goal

pub returns-in-Ok-clause-follows : goal.returns-in-Ok-clause-follows
returns-in-Ok-clause-follows g c = λ client e at_is secs_is kind_is.
    let a = request_answer g.W.Future.ReplyFuture.answer g.W.Stream.ReplyStream.answer in
    let b = serving (g.W.SharedService.answer c.args.service.now) (g.W.SharedService.hint c.args.service.now) in
    led_follows a b client c.args.state.now c.follow.new.state c.in-Open.connection c.piece.new.self c.in-Ok.outcome (outputs_in client c.follow.result) (rule b e) c.in-Open.is
    (in_leads a b c.in-Open.connection c.piece.new.self c.in-Ok.outcome e (rw (kind_is, at_is, secs_is) c.in-Ok.ensures)) (c.follow.ensures.outs client) c.follow.ensures.state

pub returns-in_default-clause-follows : goal.returns-in_default-clause-follows
returns-in_default-clause-follows g c = λ client e at_is secs_is kind_is.
    piece_unheard (request_answer g.W.Future.ReplyFuture.answer g.W.Stream.ReplyStream.answer) (serving (g.W.SharedService.answer c.args.service.now) (g.W.SharedService.hint c.args.service.now))
    client c.args.state.now e c.args.octets.now c.in_default.not-Open kind_is
