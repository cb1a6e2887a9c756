use Rattle.dns_session.specs.Serving.{serving}
use Rattle.dns_service.specs.PolledRequest.{request_answer}
use Rattle.dns_dgram_driver.proofs.Turns.{polls_one, fails_polled}
use Rattle.dns_dgram_driver.proofs.Went.{polls_then, told_then}
use Rattle.dns_dgram_driver.proofs.dgram_loop.DgramLoop.poll_one.Goals as goal

pub returns-in-Err-clause-observed : goal.returns-in-Err-clause-observed
returns-in-Err-clause-observed g c = record { observed = tt; no_memory = c.in-Err.ensures.observed.no_memory }

pub returns-in-Ok-clause-polls : goal.returns-in-Ok-clause-polls
returns-in-Ok-clause-polls g c = polls_then c.in-Ok.ensures.polls c.turn.ensures.polls

pub returns-in-Ok-clause-observed : goal.returns-in-Ok-clause-observed
returns-in-Ok-clause-observed g c = told_then c.in-Ok.ensures.observed.observed (rw c.in-Ok.ensures.polls.went.same.service at c.turn.ensures.observed) (λ done. polls_one (request_answer g.W.Future.ReplyFuture.answer g.W.Stream.ReplyStream.answer) (serving (g.W.SharedService.answer c.args.self.now.service.now) (g.W.SharedService.hint c.args.self.now.service.now))) (fails_polled (request_answer g.W.Future.ReplyFuture.answer g.W.Stream.ReplyStream.answer) (serving (g.W.SharedService.answer c.args.self.now.service.now) (g.W.SharedService.hint c.args.self.now.service.now)) c.in-Ok.ensures.polls.next)
