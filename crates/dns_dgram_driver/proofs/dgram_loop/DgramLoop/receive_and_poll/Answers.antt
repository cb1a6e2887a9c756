use Rattle.dns_session.specs.Serving.{serving}
use Rattle.dns_service.specs.PolledRequest.{request_answer}
use Rattle.std.proofs.Common.{◌∙◌, refl, arith}
use Rattle.dns_dgram_driver.proofs.ObservedLaws.{tells_none, tells_one, tells_two}
use Rattle.dns_dgram_driver.proofs.LoopRounds.{goes_same, goes_then, pass_fails, pass_breaks}
use Rattle.dns_dgram_driver.proofs.Went.{same_seat, went_same, went_then}
use Rattle.dns_dgram_driver.proofs.dgram_loop.DgramLoop.receive_and_poll.Goals as goal

pub poll_all-requires : goal.poll_all-requires
poll_all-requires g c = record { book = same_seat c.receive.ensures.went c.requires.ready.seat }

pub returns-then-self-clause-ran_once : goal.returns-then-self-clause-ran_once
returns-then-self-clause-ran_once g c = record { went = went_same; next = refl; later = omega arith; cause = refl; closed = λ e. c.if-self.true }

pub returns-then-self-clause-observed : goal.returns-then-self-clause-observed
returns-then-self-clause-observed g c = tells_none (goes_same (request_answer g.W.Future.ReplyFuture.answer g.W.Stream.ReplyStream.answer) (serving (g.W.SharedService.answer c.args.self.now.service.now) (g.W.SharedService.hint c.args.self.now.service.now)), c.if-self.true)

pub returns-in-Ok-Failed-clause-ran_once : goal.returns-in-Ok-Failed-clause-ran_once
returns-in-Ok-Failed-clause-ran_once g c = record { went = c.receive.ensures.went; next = rw c.in-Ok-Failed.field-0-is at c.in-Ok-Failed.ensures.next; later = c.receive.ensures.receives; cause = rw c.in-Ok-Failed.field-0-is at c.in-Ok-Failed.ensures.cause; closed = λ e. absurd (cc e) }

pub returns-in-Ok-Failed-clause-observed : goal.returns-in-Ok-Failed-clause-observed
returns-in-Ok-Failed-clause-observed g c = rw c.in-Ok-Failed.field-0-is at c.in-Ok-Failed.ensures.observed.observed

pub returns-in-Err-poll_all-clause-ran_once : goal.returns-in-Err-poll_all-clause-ran_once
returns-in-Err-poll_all-clause-ran_once g c = record { went = went_then c.receive.ensures.went c.poll_all.ensures.polls.went; next = rw c.poll_all.ensures.polls.next (rw c.in-Ok-Continue.field-0-is at c.in-Ok-Continue.ensures.next); later = rw c.poll_all.ensures.polls.receives c.receive.ensures.receives; cause = c.poll_all.ensures.polls.receives ∙ rw c.in-Ok-Continue.field-0-is at c.in-Ok-Continue.ensures.cause; closed = λ e. absurd (cc e) }

pub returns-in-Err-poll_all-clause-observed : goal.returns-in-Err-poll_all-clause-observed
returns-in-Err-poll_all-clause-observed g c = tells_two (rw c.in-Ok-Continue.field-0-is at c.in-Ok-Continue.ensures.observed.observed) (rw c.receive.ensures.went.same.service at c.in-Err-poll_all.ensures.observed.no_memory) (pass_breaks (request_answer g.W.Future.ReplyFuture.answer g.W.Stream.ReplyStream.answer) (serving (g.W.SharedService.answer c.args.self.now.service.now) (g.W.SharedService.hint c.args.self.now.service.now)) c.requires.ready.room (rw c.in-Ok-Continue.field-0-is at c.in-Ok-Continue.ensures.next))

pub returns-in-Ok-clause-ran_once : goal.returns-in-Ok-clause-ran_once
returns-in-Ok-clause-ran_once g c = record { went = went_then c.receive.ensures.went c.poll_all.ensures.polls.went; next = rw c.poll_all.ensures.polls.next (rw c.in-Ok-Continue.field-0-is at c.in-Ok-Continue.ensures.next); later = rw c.poll_all.ensures.polls.receives c.receive.ensures.receives; cause = c.poll_all.ensures.polls.receives ∙ rw c.in-Ok-Continue.field-0-is at c.in-Ok-Continue.ensures.cause; closed = λ e. absurd (cc e) }

pub returns-in-Ok-clause-observed : goal.returns-in-Ok-clause-observed
returns-in-Ok-clause-observed g c = tells_two (rw c.in-Ok-Continue.field-0-is at c.in-Ok-Continue.ensures.observed.observed) (rw c.receive.ensures.went.same.service at c.in-Ok.ensures.observed.observed) (goes_then (request_answer g.W.Future.ReplyFuture.answer g.W.Stream.ReplyStream.answer) (serving (g.W.SharedService.answer c.args.self.now.service.now) (g.W.SharedService.hint c.args.self.now.service.now)))

pub returns-in-Err-clause-ran_once : goal.returns-in-Err-clause-ran_once
returns-in-Err-clause-ran_once g c = record { went = c.receive.ensures.went; next = c.in-Err.ensures.next; later = c.receive.ensures.receives; cause = c.in-Err.ensures.cause; closed = λ e. absurd (cc e) }

pub returns-in-Err-clause-observed : goal.returns-in-Err-clause-observed
returns-in-Err-clause-observed g c = tells_one c.in-Err.ensures.observed.no_memory (pass_fails (request_answer g.W.Future.ReplyFuture.answer g.W.Stream.ReplyStream.answer) (serving (g.W.SharedService.answer c.args.self.now.service.now) (g.W.SharedService.hint c.args.self.now.service.now)) c.requires.ready.room)
