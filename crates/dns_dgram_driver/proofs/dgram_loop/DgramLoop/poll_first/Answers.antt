use Rattle.dns_session.specs.Serving.{serving}
use Rattle.dns_service.specs.PolledRequest.{request_answer}
use Rattle.dns_dgram_driver.proofs.ObservedLaws.{tells_none}
use Rattle.dns_dgram_driver.proofs.LoopRounds.{goes_first}
use Rattle.dns_dgram_driver.proofs.Went.{told_then}
use Rattle.dns_dgram_driver.proofs.dgram_loop.DgramLoop.poll_first.Goals as goal

pub returns-clause-observed : goal.returns-clause-observed
returns-clause-observed g c = told_then (tells_none c.number_first-number.ensures) c.poll_one.ensures.observed (λ done e t. goes_first (request_answer g.W.Future.ReplyFuture.answer g.W.Stream.ReplyStream.answer) (serving (g.W.SharedService.answer c.args.self.now.service.now) (g.W.SharedService.hint c.args.self.now.service.now)) e t) (λ e t. t)
