use Rattle.std.proofs.Common.{sym}
use Rattle.dns_service.specs.PolledRequest.{request_answer}
use Rattle.dns_session.specs.Outputs.{outputs_in}
use Rattle.dns_stream_driver.proofs.OwnEvents.{takes}
use Rattle.dns_stream_driver.proofs.acting.take_write.Goals as goal

pub returns : goal.returns
returns g c = λ answers e at_is kind_is.
    takes (request_answer g.W.Future.ReplyFuture.answer g.W.Stream.ReplyStream.answer) answers
    c.args.core.now c.write-sent.new.self e (outputs_in c.args.core.now.client c.write-sent.result) c.closed_behind.result
    (c.write-sent.ensures.follows answers e at_is kind_is) c.write-sent.ensures.version (sym (c.closed_behind.ensures c.args.core.now.client))
