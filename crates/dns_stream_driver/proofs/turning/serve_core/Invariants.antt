use Rattle.std.proofs.Common.{◌≡◌, ◌≤◌}
use Rattle.dns_io.specs.Causes.{Observed}
use Rattle.dns_service.specs.PolledRequest.{request_answer}
use Rattle.dns_session.specs.Serving.{serving}
use Rattle.dns_session.specs.Slate.{Slate}
use Rattle.dns_recorder.specs.Clocks.{Timed}
use Rattle.dns_stream_driver.specs.Rounds.{below_of}
use Rattle.dns_stream_driver.specs.Runs.{Going}
use Rattle.dns_stream_driver.specs.Story.{LooksAlone}
use Rattle.dns_stream_driver.specs.Turning.{BeginsOpen}
use Rattle.dns_stream_driver.proofs.ConnectionInvariant.{Goes}
use Rattle.dns_stream_driver.proofs.turning.serve_core.Given as goal

abbrev pub invariant-loop : goal.invariant-loop
invariant-loop g l = record {
  run : Observed (g.L.Link.tells l.link × g.J.Recorder.tells l.journal) (g.L.Link.tells l.fn.link × g.J.Recorder.tells l.fn.journal)
      ((s : Slate) → BeginsOpen (request_answer g.W.Future.ReplyFuture.answer g.W.Stream.ReplyStream.answer) (serving (g.W.SharedService.answer l.service) (g.W.SharedService.hint l.service)) l.fn.core l.look s
      → Going (request_answer g.W.Future.ReplyFuture.answer g.W.Stream.ReplyStream.answer) (serving (g.W.SharedService.answer l.service) (g.W.SharedService.hint l.service)) s l.client l.look l.kept.last (below_of l.kept.turn) l.core
      (g.J.Recorder.noted l.fn.journal) (g.J.Recorder.noted l.journal) l.fn.seat.known l.seat.known (g.L.Link.traffic l.fn.link) (g.L.Link.traffic l.link));
  clock : Observed (g.L.Link.tells l.link × g.C.Clock.tells l.clock × g.J.Recorder.tells l.journal) (g.L.Link.tells l.fn.link × g.C.Clock.tells l.fn.clock × g.J.Recorder.tells l.fn.journal)
      (Timed (g.J.Recorder.noted l.fn.journal) (g.J.Recorder.noted l.journal) (g.L.Link.traffic l.fn.link).full_writes (g.L.Link.traffic l.link).full_writes (g.C.Clock.readings l.fn.clock) (g.C.Clock.readings l.clock));
  goes : (s : Slate) → BeginsOpen (request_answer g.W.Future.ReplyFuture.answer g.W.Stream.ReplyStream.answer) (serving (g.W.SharedService.answer l.service) (g.W.SharedService.hint l.service)) l.fn.core l.look s
      → Goes (request_answer g.W.Future.ReplyFuture.answer g.W.Stream.ReplyStream.answer) (serving (g.W.SharedService.answer l.service) (g.W.SharedService.hint l.service)) l.core l.fn.seat.known l.seat.known (g.L.Link.faults l.fn.link) (g.L.Link.faults l.link);
  later : g.L.Link.faults l.fn.link ≤ g.L.Link.faults l.link;
  seat : LooksAlone l.fn.seat.known l.seat.known;
  same : l.seat.book ≡ l.fn.seat.book;
}
