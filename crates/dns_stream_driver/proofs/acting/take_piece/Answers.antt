use Rattle.std.proofs.Common.{sym}
use Rattle.dns_service.specs.PolledRequest.{request_answer}
use Rattle.dns_session.specs.Outputs.{outputs_in}
use Rattle.dns_session.specs.Serving.{serving}
use Rattle.dns_stream_driver.proofs.OwnEvents.{takes}
use Rattle.dns_stream_driver.proofs.acting.take_piece.Goals as goal

pub returns-in-Ok : goal.returns-in-Ok
returns-in-Ok g c = λ e at_is secs_is kind_is.
    takes (request_answer g.W.Future.ReplyFuture.answer g.W.Stream.ReplyStream.answer) (serving (g.W.SharedService.answer c.args.service.now) (g.W.SharedService.hint c.args.service.now))
    c.args.core.now c.piece.new.self e (outputs_in c.args.core.now.client c.in-Ok.sent) c.closed_behind.result
    (c.in-Ok.ensures.follows e at_is secs_is kind_is) c.in-Ok.ensures.version (sym (c.closed_behind.ensures c.args.core.now.client))
