use Rattle.dns_session.specs.Serving.{serving}
use Rattle.dns_service.specs.PolledRequest.{request_answer}
use Rattle.std.proofs.Common.{refl, ◌∙◌}
use Rattle.dns_dgram_driver.proofs.ObservedLaws.{tells_none, tells_two}
use Rattle.dns_dgram_driver.proofs.LoopRounds.{goes_same, goes_then, stopped_at}
use Rattle.dns_dgram_driver.proofs.Went.{same_seat, went_same, went_then, rounds_to}
use Rattle.dns_dgram_driver.proofs.dgram_loop.DgramLoop.take_all.Goals as goal

pub loop-init : goal.loop-init
loop-init g c = record { receives = refl; went = went_same; within = c.requires.within; observed = tells_none (goes_same (request_answer g.W.Future.ReplyFuture.answer g.W.Stream.ReplyStream.answer) (serving (g.W.SharedService.answer c.args.self.now.service.now) (g.W.SharedService.hint c.args.self.now.service.now))) }

pub run_once-requires-clause-book : goal.run_once-requires-clause-book
run_once-requires-clause-book g c = same_seat c.loop.invariant.went c.requires.book

pub loop-preserved : goal.loop-preserved
loop-preserved g c = record {
  receives = c.in_default.ensures.ran_once.cause ∙ c.loop.invariant.receives;
  went = went_then c.loop.invariant.went c.run_once.ensures.ran_once.went;
  within = c.in_default.ensures.taken;
  observed = tells_two c.loop.invariant.observed (rw c.loop.invariant.went.same.service at c.in_default.ensures.observed) (goes_then (request_answer g.W.Future.ReplyFuture.answer g.W.Stream.ReplyStream.answer) (serving (g.W.SharedService.answer c.args.self.now.service.now) (g.W.SharedService.hint c.args.self.now.service.now)));
}

pub returns-in-Some-run_once-clause-went : goal.returns-in-Some-run_once-clause-went
returns-in-Some-run_once-clause-went g c = rounds_to c.loop.invariant.went c.loop.invariant.receives c.in-Some-run_once.ensures.ran_once c.in-Some-run_once.ensures.taken

pub returns-in-Some-run_once-clause-observed : goal.returns-in-Some-run_once-clause-observed
returns-in-Some-run_once-clause-observed g c = tells_two c.loop.invariant.observed (rw c.loop.invariant.went.same.service at c.run_once.ensures.observed) (stopped_at (request_answer g.W.Future.ReplyFuture.answer g.W.Stream.ReplyStream.answer) (serving (g.W.SharedService.answer c.args.self.now.service.now) (g.W.SharedService.hint c.args.self.now.service.now)) c.run_once.result c.in-Some-run_once.end _ _ c.args.count c.in-Some-run_once.is)
