use Rattle.dns_session.specs.Serving.{serving}
use Rattle.dns_service.specs.PolledRequest.{request_answer}
use Rattle.dns_dgram_driver.proofs.Counts.{taken_less}
use Rattle.dns_dgram_driver.proofs.ObservedLaws.{tells_two}
use Rattle.dns_dgram_driver.proofs.Starts.{end_by, end_by_fails}
use Rattle.dns_dgram_driver.proofs.Went.{same_seat, went_by, polled_to, polls_break_to}
use Rattle.dns_dgram_driver.proofs.dgram_loop.DgramLoop.serve_all.Goals as goal

pub finish-requires : goal.finish-requires
finish-requires g c = record { book = same_seat (went_by c.take_all-end.ensures.went) c.requires.book }

pub returns-in-Ok-clause-went : goal.returns-in-Ok-clause-went
returns-in-Ok-clause-went g c = polled_to c.take_all-end.ensures.went c.in-Ok.ensures.polls

pub returns-in-Err-clause-went : goal.returns-in-Err-clause-went
returns-in-Err-clause-went g c = polls_break_to c.take_all-end.result c.in_default.not-Fault c.take_all-end.ensures.went c.in-Err.ensures.polls

pub returns-in-Ok-clause-observed : goal.returns-in-Ok-clause-observed
returns-in-Ok-clause-observed g c = tells_two c.take_all-end.ensures.observed (rw c.take_all-end.ensures.went.same.service at c.in-Ok.ensures.observed.observed) (end_by (request_answer g.W.Future.ReplyFuture.answer g.W.Stream.ReplyStream.answer) (serving (g.W.SharedService.answer c.args.self.now.service.now) (g.W.SharedService.hint c.args.self.now.service.now)) _ _ _ _ _ _ c.args.count c.take_all-end.result c.in_default.not-OutOfMemory c.in-Ok.ensures.polls.next)

pub returns-in-Err-clause-observed : goal.returns-in-Err-clause-observed
returns-in-Err-clause-observed g c = tells_two c.take_all-end.ensures.observed (rw c.take_all-end.ensures.went.same.service at c.in-Err.ensures.observed.no_memory) (end_by_fails (request_answer g.W.Future.ReplyFuture.answer g.W.Stream.ReplyStream.answer) (serving (g.W.SharedService.answer c.args.self.now.service.now) (g.W.SharedService.hint c.args.self.now.service.now)) _ _ _ _ _ c.args.count c.take_all-end.result c.in_default.not-OutOfMemory (taken_less c.take_all-end.result c.take_all-end.ensures.went.passes.taken))
