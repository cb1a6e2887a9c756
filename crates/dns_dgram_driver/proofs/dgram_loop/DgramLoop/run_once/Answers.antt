use Rattle.dns_session.specs.Serving.{serving}
use Rattle.dns_service.specs.PolledRequest.{request_answer}
use Rattle.std.proofs.Common.{refl, arith}
use Rattle.dns_dgram_driver.proofs.Counts.{may_come_is, taken_round}
use Rattle.dns_dgram_driver.proofs.LoopRounds.{goes_same, look_rounds, look_fails}
use Rattle.dns_dgram_driver.proofs.ObservedLaws.{tells_none, tells_one, tells_two}
use Rattle.dns_dgram_driver.proofs.Went.{still_ready, went_same, went_then}
use Rattle.dns_dgram_driver.proofs.dgram_loop.DgramLoop.run_once.Goals as goal

pub receive_and_poll-requires-clause-ready : goal.receive_and_poll-requires-clause-ready
receive_and_poll-requires-clause-ready g c = still_ready c.look_once.ensures.polls (record { seat = c.requires.book; callable = c.requires.can_call; room = let h = (c.is_full.ensures.room c.if-is_full.false).1 in omega arith })

pub returns-then-is_full-clause-ran_once : goal.returns-then-is_full-clause-ran_once
returns-then-is_full-clause-ran_once g c = record { went = went_same; next = refl; later = omega arith; cause = refl; closed = λ e. absurd (cc e) }

pub returns-then-is_full-clause-observed : goal.returns-then-is_full-clause-observed
returns-then-is_full-clause-observed g c = tells_none (refl, goes_same (request_answer g.W.Future.ReplyFuture.answer g.W.Stream.ReplyStream.answer) (serving (g.W.SharedService.answer c.args.self.now.service.now) (g.W.SharedService.hint c.args.self.now.service.now)), c.is_full.ensures.full c.if-is_full.true)

pub returns-in-Err-clause-ran_once : goal.returns-in-Err-clause-ran_once
returns-in-Err-clause-ran_once g c = record { went = c.look_once.ensures.polls.went; next = rw c.look_once.ensures.polls.next (omega arith); later = rw c.look_once.ensures.polls.receives (omega arith); cause = c.look_once.ensures.polls.receives; closed = λ e. absurd (cc e) }

pub returns-in-Err-clause-observed : goal.returns-in-Err-clause-observed
returns-in-Err-clause-observed g c = tells_one c.in-Err.ensures.observed.no_memory (look_fails (request_answer g.W.Future.ReplyFuture.answer g.W.Stream.ReplyStream.answer) (serving (g.W.SharedService.answer c.args.self.now.service.now) (g.W.SharedService.hint c.args.self.now.service.now)) (c.is_full.ensures.room c.if-is_full.false))

pub returns-in-Ok-clause-ran_once : goal.returns-in-Ok-clause-ran_once
returns-in-Ok-clause-ran_once g c = record { went = went_then c.look_once.ensures.polls.went c.receive_and_poll.ensures.ran_once.went; next = rw c.look_once.ensures.polls.next at c.receive_and_poll.ensures.ran_once.next; later = rw c.look_once.ensures.polls.receives at c.receive_and_poll.ensures.ran_once.later; cause = rw c.look_once.ensures.polls.receives at c.receive_and_poll.ensures.ran_once.cause; closed = c.receive_and_poll.ensures.ran_once.closed }

pub returns-in-Ok-clause-observed : goal.returns-in-Ok-clause-observed
returns-in-Ok-clause-observed g c = tells_two c.in-Ok.ensures.observed.observed (rw c.look_once.ensures.polls.went.same.service at c.receive_and_poll.ensures.observed) (look_rounds (request_answer g.W.Future.ReplyFuture.answer g.W.Stream.ReplyStream.answer) (serving (g.W.SharedService.answer c.args.self.now.service.now) (g.W.SharedService.hint c.args.self.now.service.now)) c.receive_and_poll.result _ _ c.args.count c.look_once.ensures.polls.next (c.is_full.ensures.room c.if-is_full.false))

pub returns-in-Err-clause-taken : goal.returns-in-Err-clause-taken
returns-in-Err-clause-taken g c = may_come_is c.look_once.ensures.polls.next c.requires.within

pub returns-in-Ok-clause-taken : goal.returns-in-Ok-clause-taken
returns-in-Ok-clause-taken g c = taken_round c.receive_and_poll.result _ _ _ _ c.look_once.ensures.polls.next c.requires.within (c.is_full.ensures.room c.if-is_full.false) c.receive_and_poll.ensures.ran_once.next
