use Rattle.dns_session.specs.Serving.{serving}
use Rattle.dns_service.specs.PolledRequest.{request_answer}
use Rattle.std.proofs.Common.{refl}
use Rattle.dns_dgram_driver.proofs.ObservedLaws.{tells_cj}
use Rattle.dns_dgram_driver.proofs.Turns.{fails_same}
use Rattle.dns_dgram_driver.proofs.Went.{told_then}
use Rattle.dns_dgram_driver.proofs.dgram_loop.DgramLoop.turn.Goals as goal

pub returns-in-Err-clause-observed : goal.returns-in-Err-clause-observed
returns-in-Err-clause-observed g c = record { observed = tt; no_memory = tells_cj c.in-Err.ensures.no_memory (λ t. fails_same (request_answer g.W.Future.ReplyFuture.answer g.W.Stream.ReplyStream.answer) (serving (g.W.SharedService.answer c.args.self.now.service.now) (g.W.SharedService.hint c.args.self.now.service.now)) c.args.self.now.state.now (record { noted = t; received = refl; sent = refl })) }

pub returns-in-Ok-clause-observed : goal.returns-in-Ok-clause-observed
returns-in-Ok-clause-observed g c = told_then (tells_cj c.in-Ok.ensures.observed (λ t. t)) c.turn_noted.ensures.observed (λ done t x. rw c.in-Ok.ensures.of at (x.since _ _ t)) (λ t x. x.since _ _ t)
