use Rattle.dns_session.specs.Serving.{serving}
use Rattle.dns_service.specs.PolledRequest.{request_answer}
use Rattle.std.proofs.Common.{[], ◌<◌, ◌≤◌, length, take, append-nil, sym, arith}
use Rattle.dns_dgram_driver.specs.Steps.{numbers_of}
use Rattle.dns_dgram_driver.proofs.Places.{numbers_length, first_stands, next_is, stand_behind, none_left}
use Rattle.dns_dgram_driver.proofs.ObservedLaws.{tells_none, tells_one, tells_two}
use Rattle.dns_dgram_driver.proofs.LoopRounds.{goes_same, goes_then, goes_left, goes_next, polls_fail}
use Rattle.dns_dgram_driver.proofs.Went.{same_seat, polls_same, polls_then}
use Rattle.dns_dgram_driver.proofs.dgram_loop.DgramLoop.poll_all.Goals as goal

pub loop-polled-init : goal.loop-polled-init
loop-polled-init g c = record { polls = polls_same; order = ([], sym (append-nil (numbers_of c.args.self.now.state.now.exchanges.items))); observed = tells_none (goes_same (request_answer g.W.Future.ReplyFuture.answer g.W.Stream.ReplyStream.answer) (serving (g.W.SharedService.answer c.args.self.now.service.now) (g.W.SharedService.hint c.args.self.now.service.now))) }

pub poll_first-requires-clause-book : goal.poll_first-requires-clause-book
poll_first-requires-clause-book g c = same_seat c.loop-polled.invariant.polls.went c.requires.book

pub poll_first-requires-clause-there : goal.poll_first-requires-clause-there
poll_first-requires-clause-there g c =
    let ns = numbers_of c.args.self.now.state.now.exchanges.items in
    let h : c.loop-polled._polled < length ns = let a = c.args.self.now.state.now.exchanges.ok.0 in let b = c.len-polled-end.ensures in let n = c.loop-polled-test.true in omega (arith, numbers_length c.args.self.now.state.now.exchanges.items) in
    let a = c.loop-polled.self.state.now.exchanges.ok.0 in
    let f = first_stands ns c.loop-polled._polled c.loop-polled.self.state.now.exchanges.items h c.loop-polled.invariant.order in
    omega arith

pub loop-polled-preserved : goal.loop-polled-preserved
loop-polled-preserved g c =
    let ns = numbers_of c.args.self.now.state.now.exchanges.items in
    let xs = c.loop-polled.self.state.now.exchanges.items in
    let h : c.loop-polled._polled < length ns = let a = c.args.self.now.state.now.exchanges.ok.0 in let b = c.len-polled-end.ensures in let n = c.loop-polled-test.true in omega (arith, numbers_length c.args.self.now.state.now.exchanges.items) in record {
      polls = polls_then c.loop-polled.invariant.polls c.poll_first.ensures.polls;
      order = stand_behind ns c.loop-polled._polled xs _ _ h c.loop-polled.invariant.order c.in-Ok.ensures.order;
      observed = tells_two c.loop-polled.invariant.observed (rw c.loop-polled.invariant.polls.went.same.service at c.in-Ok.ensures.observed.observed)
          (λ before t. goes_then (request_answer g.W.Future.ReplyFuture.answer g.W.Stream.ReplyStream.answer) (serving (g.W.SharedService.answer c.args.self.now.service.now) (g.W.SharedService.hint c.args.self.now.service.now)) before
          (goes_next (request_answer g.W.Future.ReplyFuture.answer g.W.Stream.ReplyStream.answer) (serving (g.W.SharedService.answer c.args.self.now.service.now) (g.W.SharedService.hint c.args.self.now.service.now)) (take 1 (numbers_of xs)) (next_is ns c.loop-polled._polled xs h c.loop-polled.invariant.order) t));
    }

pub returns-in-Err-clause-polls : goal.returns-in-Err-clause-polls
returns-in-Err-clause-polls g c = polls_then c.loop-polled.invariant.polls c.poll_first.ensures.polls

pub returns-in-Err-clause-observed : goal.returns-in-Err-clause-observed
returns-in-Err-clause-observed g c = record {
  observed = tt;
  no_memory = tells_two c.loop-polled.invariant.observed (rw c.loop-polled.invariant.polls.went.same.service at c.in-Err.ensures.observed.no_memory)
      (λ before t. polls_fail (request_answer g.W.Future.ReplyFuture.answer g.W.Stream.ReplyStream.answer) (serving (g.W.SharedService.answer c.args.self.now.service.now) (g.W.SharedService.hint c.args.self.now.service.now)) c.loop-polled.invariant.polls.next before (t.breaks _));
}

pub returns-clause-observed : goal.returns-clause-observed
returns-clause-observed g c =
    let ns = numbers_of c.args.self.now.state.now.exchanges.items in
    let h : length ns ≤ c.loop-polled._polled = let a = c.args.self.now.state.now.exchanges.ok.0 in let b = c.len-polled-end.ensures in let n = c.loop-polled-test.false in omega (arith, numbers_length c.args.self.now.state.now.exchanges.items) in record {
      observed = tells_one c.loop-polled.invariant.observed (goes_left (request_answer g.W.Future.ReplyFuture.answer g.W.Stream.ReplyStream.answer) (serving (g.W.SharedService.answer c.args.self.now.service.now) (g.W.SharedService.hint c.args.self.now.service.now)) (none_left ns c.loop-polled._polled h));
      no_memory = tt;
    }
