use Rattle.dns_session.specs.Serving.{serving}
use Rattle.dns_framing.specs.PolledRequest.{request_answer}
use Rattle.dns_session.proofs.Taking.{one_more, no_more}
use Rattle.dns_session.proofs.connection.OpenConnection.take_all.Goals as goal

pub returns-in-Some : goal.returns-in-Some
returns-in-Some g c =
    no_more (request_answer g.W.Future.ReplyFuture.answer g.W.Stream.ReplyStream.answer) (serving (g.W.SharedService.answer c.args.service.now) (g.W.SharedService.hint c.args.service.now)) c.args.at c.args.secs c.args.self.now c.loop-outcome.self c.take_one.new.self c.in-Some.outcome c.loop-outcome.invariant (rw c.in-Some.is at c.in_ok-outcome.ensures)

pub loop-outcome-preserved : goal.loop-outcome-preserved
loop-outcome-preserved g c =
    one_more (request_answer g.W.Future.ReplyFuture.answer g.W.Stream.ReplyStream.answer) (serving (g.W.SharedService.answer c.args.service.now) (g.W.SharedService.hint c.args.service.now)) c.args.at c.args.secs c.args.self.now c.loop-outcome.self c.take_one.new.self c.loop-outcome.invariant (rw c.in_default.is at c.in_ok-outcome.ensures)
