use Rattle.std.proofs.Common.{drop, false}
use Rattle.dns_session.specs.Serving.{serving}
use Rattle.dns_service.specs.PolledRequest.{request_answer}
use Rattle.dns_io.specs.Causes.{Observed}
use Rattle.dns_dgram_driver.specs.Rounds.{LoopGoes}
use Rattle.dns_dgram_driver.specs.LoopParts.{OnlyPolls, loop_seen, loop_observed}
use Rattle.dns_dgram_driver.specs.Steps.{StandFirst, numbers_of}
use Rattle.dns_dgram_driver.proofs.dgram_loop.DgramLoop.poll_all.Given as goal

abbrev pub invariant-loop-polled : goal.invariant-loop-polled
invariant-loop-polled g l = record {
  polls : OnlyPolls g.D.AsyncDgramSock.failed_receives g.D.AsyncDgramSock.failed_sends l.fn.self l.self;
  order : StandFirst (drop l._polled (numbers_of l.fn.self.state.now.exchanges.items)) l.self.state.now.exchanges.items;
  observed : Observed (loop_observed g.D.AsyncDgramSock.tells g.C.Clock.tells g.J.Recorder.tells l.self) (loop_observed g.D.AsyncDgramSock.tells g.C.Clock.tells g.J.Recorder.tells l.fn.self)
      (LoopGoes (request_answer g.W.Future.ReplyFuture.answer g.W.Stream.ReplyStream.answer) (serving (g.W.SharedService.answer l.fn.self.service.now) (g.W.SharedService.hint l.fn.self.service.now)) (loop_seen g.D.AsyncDgramSock.sock_traffic g.D.AsyncDgramSock.failed_sends g.C.Clock.readings g.J.Recorder.noted l.fn.self) l.fn.self.state.now false (numbers_of l.fn.self.state.now.exchanges.items) (loop_seen g.D.AsyncDgramSock.sock_traffic g.D.AsyncDgramSock.failed_sends g.C.Clock.readings g.J.Recorder.noted l.self) l.self.state.now false (drop l._polled (numbers_of l.fn.self.state.now.exchanges.items)));
}
