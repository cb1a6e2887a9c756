use Rattle.dns_session.specs.Serving.{serving}
use Rattle.dns_service.specs.PolledRequest.{request_answer}
use Rattle.std.proofs.Common.{rules, refl, ◌≡◌}
use Rattle.std.specs.VecDeque.{deque_len}
use Rattle.dns_dgram_driver.proofs.ObservedLaws.{tells_none, tells_one, tells_two, tells_d_c_dcj}
use Rattle.dns_dgram_driver.proofs.LoopRounds.{goes_same, goes_waited, breaks_waited, finish_more, finish_fails, finished_by}
use Rattle.dns_dgram_driver.proofs.Went.{same_seat, polls_same, polls_then, polls_waited}
use Rattle.dns_dgram_driver.proofs.dgram_loop.DgramLoop.finish.Goals as goal

pub loop-init : goal.loop-init
loop-init g c = record { polls = polls_same; observed = tells_none (goes_same (request_answer g.W.Future.ReplyFuture.answer g.W.Stream.ReplyStream.answer) (serving (g.W.SharedService.answer c.args.self.now.service.now) (g.W.SharedService.hint c.args.self.now.service.now))) }

pub poll_all-requires : goal.poll_all-requires
poll_all-requires g c = record { book = same_seat c.loop.invariant.polls.went c.requires.book }

pub returns-then-is_empty-clause-observed : goal.returns-then-is_empty-clause-observed
returns-then-is_empty-clause-observed g c = record { observed = tells_one c.loop.invariant.observed (finished_by (request_answer g.W.Future.ReplyFuture.answer g.W.Stream.ReplyStream.answer) (serving (g.W.SharedService.answer c.args.self.now.service.now) (g.W.SharedService.hint c.args.self.now.service.now)) (let h : deque_len c.loop.self.state.now.exchanges ≡ 0 = search (rules, c.is_empty.ensures, c.if-is_empty.true) in h)); no_memory = tt }

pub loop-preserved : goal.loop-preserved
loop-preserved g c = record {
  polls = polls_then c.loop.invariant.polls (polls_waited (record { book = refl; service = refl; sock = refl; clock = refl; journal = refl; state = refl }) refl refl refl c.poll_all.ensures.polls);
  observed = tells_two c.loop.invariant.observed (tells_d_c_dcj (record { observed = λ t. (t, refl) }) c.outdate.ensures (rw c.loop.invariant.polls.went.same.service at c.in-Ok.ensures.observed.observed) (λ w h. goes_waited (request_answer g.W.Future.ReplyFuture.answer g.W.Stream.ReplyStream.answer) (serving (g.W.SharedService.answer c.args.self.now.service.now) (g.W.SharedService.hint c.args.self.now.service.now)) refl w h)) (finish_more (request_answer g.W.Future.ReplyFuture.answer g.W.Stream.ReplyStream.answer) (serving (g.W.SharedService.answer c.args.self.now.service.now) (g.W.SharedService.hint c.args.self.now.service.now)));
}

pub returns-in-Err-clause-polls : goal.returns-in-Err-clause-polls
returns-in-Err-clause-polls g c = polls_then c.loop.invariant.polls (polls_waited (record { book = refl; service = refl; sock = refl; clock = refl; journal = refl; state = refl }) refl refl refl c.poll_all.ensures.polls)

pub returns-in-Err-clause-observed : goal.returns-in-Err-clause-observed
returns-in-Err-clause-observed g c = record { observed = tt; no_memory = tells_two c.loop.invariant.observed (tells_d_c_dcj (record { observed = λ t. (t, refl) }) c.outdate.ensures (rw c.loop.invariant.polls.went.same.service at c.in-Err.ensures.observed.no_memory) (λ w h. breaks_waited (request_answer g.W.Future.ReplyFuture.answer g.W.Stream.ReplyStream.answer) (serving (g.W.SharedService.answer c.args.self.now.service.now) (g.W.SharedService.hint c.args.self.now.service.now)) refl w h)) (finish_fails (request_answer g.W.Future.ReplyFuture.answer g.W.Stream.ReplyStream.answer) (serving (g.W.SharedService.answer c.args.self.now.service.now) (g.W.SharedService.hint c.args.self.now.service.now)) c.loop.invariant.polls.next) }
