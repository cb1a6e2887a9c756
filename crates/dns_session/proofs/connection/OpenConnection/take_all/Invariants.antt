use Rattle.dns_session.specs.Serving.{serving}
use Rattle.std.proofs.Common.{length}
use Rattle.dns_framing.specs.PolledRequest.{request_answer}
use Rattle.dns_session.proofs.Taking.{TakesOn}
use Rattle.dns_session.proofs.connection.OpenConnection.take_all.Given as goal

abbrev pub invariant-loop-outcome : goal.invariant-loop-outcome
invariant-loop-outcome g l = TakesOn (request_answer g.W.Future.ReplyFuture.answer g.W.Stream.ReplyStream.answer) (serving (g.W.SharedService.answer l.service) (g.W.SharedService.hint l.service)) l.at l.secs l.fn.self l.self

abbrev pub decreases-loop-outcome : goal.decreases-loop-outcome
decreases-loop-outcome g l = length l.self.framer
