use Rattle.std.proofs.Common.{refl, ◌∙◌, arith}
use Rattle.dns_service.specs.PolledRequest.{request_answer}
use Rattle.dns_session.specs.Serving.{serving}
use Rattle.dns_recorder.proofs.EventTimes.{timed_none, timed_then}
use Rattle.dns_stream_driver.specs.Rounds.{below_of}
use Rattle.dns_stream_driver.proofs.Appends.{looks_none, looks_more}
use Rattle.dns_stream_driver.proofs.ConnectionInvariant.{goes_begun}
use Rattle.dns_stream_driver.proofs.StoryTurns.{going_begun, going_turned, closed_turned, broken_turned, goes_turned, cause_turned}
use Rattle.dns_stream_driver.proofs.turning.serve_core.Goals as goal

pub loop-init : goal.loop-init
loop-init g c =
    let a = request_answer g.W.Future.ReplyFuture.answer g.W.Stream.ReplyStream.answer in
    let b = serving (g.W.SharedService.answer c.args.service.now) (g.W.SharedService.hint c.args.service.now) in
    record {
      run = record { observed = λ t. (t, λ s h. going_begun a b s c.args.client c.args.look.now c.args.core.now (g.J.Recorder.noted c.args.journal.now) c.args.seat.now.known (g.L.Link.traffic c.args.link.now) h) };
      clock = record { observed = λ t. (t, timed_none (g.J.Recorder.noted c.args.journal.now) (g.L.Link.traffic c.args.link.now).full_writes (g.C.Clock.readings c.args.clock.now)) };
      goes = λ s h. goes_begun a b c.args.core.now s c.args.seat.now.known (g.L.Link.faults c.args.link.now) h.stands h.opened;
      later = omega arith;
      seat = looks_none c.args.seat.now.known;
      same = refl;
    }

pub loop-preserved : goal.loop-preserved
loop-preserved g c =
    let a = request_answer g.W.Future.ReplyFuture.answer g.W.Stream.ReplyStream.answer in
    let b = serving (g.W.SharedService.answer c.args.service.now) (g.W.SharedService.hint c.args.service.now) in
    record {
      run = record {
        observed = λ t.
            let m = (rw c.in-Ok-None.field-0-is at c.in-Ok-None.ensures.observed).observed t in
            let r = c.loop.invariant.run.observed m.0 in
            (r.0, λ s h. going_turned a b s c.args.client (below_of c.loop.kept.turn) (below_of c.turn_once.new.kept.turn) c.args.look.now c.loop.kept.last c.turn_once.new.kept.last c.loop.core c.turn_once.new.core (g.J.Recorder.noted c.args.journal.now) (g.J.Recorder.noted c.loop.journal) (g.J.Recorder.noted c.turn_once.new.journal) c.args.seat.now.known c.loop.seat.known c.turn_once.new.seat.known (g.L.Link.traffic c.args.link.now) (g.L.Link.traffic c.loop.link) (g.L.Link.traffic c.turn_once.new.link) (r.1 s h) m.1);
      };
      clock = record {
        observed = λ t.
            let m = c.in-Ok-None.ensures.clock.observed t in
            let r = c.loop.invariant.clock.observed m.0 in
            (r.0, timed_then (g.J.Recorder.noted c.args.journal.now) (g.J.Recorder.noted c.loop.journal) (g.J.Recorder.noted c.turn_once.new.journal) (g.L.Link.traffic c.args.link.now).full_writes (g.L.Link.traffic c.loop.link).full_writes (g.L.Link.traffic c.turn_once.new.link).full_writes (g.C.Clock.readings c.args.clock.now) (g.C.Clock.readings c.loop.clock) (g.C.Clock.readings c.turn_once.new.clock) r.1 m.1);
      };
      goes = λ s h. goes_turned a b c.loop.core c.turn_once.new.core c.args.seat.now.known c.loop.seat.known c.turn_once.new.seat.known (g.L.Link.faults c.args.link.now) (g.L.Link.faults c.loop.link) (g.L.Link.faults c.turn_once.new.link) (c.loop.invariant.goes s h) (rw c.in-Ok-None.field-0-is at c.in-Ok-None.ensures.cause);
      later = let l = c.loop.invariant.later in let m = c.turn_once.ensures.later in omega arith;
      seat = looks_more c.args.seat.now.known c.loop.seat.known c.turn_once.new.seat.known c.loop.invariant.seat c.turn_once.ensures.looked;
      same = c.turn_once.ensures.same ∙ c.loop.invariant.same;
    }

pub returns-in-Ok-Some-clause-observed : goal.returns-in-Ok-Some-clause-observed
returns-in-Ok-Some-clause-observed g c =
    let a = request_answer g.W.Future.ReplyFuture.answer g.W.Stream.ReplyStream.answer in
    let b = serving (g.W.SharedService.answer c.args.service.now) (g.W.SharedService.hint c.args.service.now) in
    record {
      observed = λ t.
          let m = (rw c.in-Ok-Some.field-0-is at c.in-Ok-Some.ensures.observed).observed t in
          let r = c.loop.invariant.run.observed m.0 in
          (r.0, λ s h. closed_turned a b s c.args.client (below_of c.loop.kept.turn) (below_of c.turn_once.new.kept.turn) c.args.look.now c.loop.kept.last c.turn_once.new.kept.last c.in-Ok-Some.why c.loop.core c.turn_once.new.core (g.J.Recorder.noted c.args.journal.now) (g.J.Recorder.noted c.loop.journal) (g.J.Recorder.noted c.turn_once.new.journal) c.args.seat.now.known c.loop.seat.known c.turn_once.new.seat.known (g.L.Link.traffic c.args.link.now) (g.L.Link.traffic c.loop.link) (g.L.Link.traffic c.turn_once.new.link) h.opened h.nothing (r.1 s h) m.1);
    }

pub returns-in-Ok-Some-clause-clock : goal.returns-in-Ok-Some-clause-clock
returns-in-Ok-Some-clause-clock g c =
    record {
      observed = λ t.
          let m = c.in-Ok-Some.ensures.clock.observed t in
          let r = c.loop.invariant.clock.observed m.0 in
          (r.0, timed_then (g.J.Recorder.noted c.args.journal.now) (g.J.Recorder.noted c.loop.journal) (g.J.Recorder.noted c.turn_once.new.journal) (g.L.Link.traffic c.args.link.now).full_writes (g.L.Link.traffic c.loop.link).full_writes (g.L.Link.traffic c.turn_once.new.link).full_writes (g.C.Clock.readings c.args.clock.now) (g.C.Clock.readings c.loop.clock) (g.C.Clock.readings c.turn_once.new.clock) r.1 m.1);
    }

pub returns-in-Ok-Some-clause-cause : goal.returns-in-Ok-Some-clause-cause
returns-in-Ok-Some-clause-cause g c =
    let a = request_answer g.W.Future.ReplyFuture.answer g.W.Stream.ReplyStream.answer in
    let b = serving (g.W.SharedService.answer c.args.service.now) (g.W.SharedService.hint c.args.service.now) in
    λ s h. cause_turned a b c.in-Ok-Some.why c.loop.core c.turn_once.new.core c.args.seat.now.known c.loop.seat.known c.turn_once.new.seat.known (g.L.Link.faults c.args.link.now) (g.L.Link.faults c.loop.link) (g.L.Link.faults c.turn_once.new.link) (c.loop.invariant.goes s h) (rw c.in-Ok-Some.field-0-is at c.in-Ok-Some.ensures.cause)

pub returns-in-Ok-Some-clause-later : goal.returns-in-Ok-Some-clause-later
returns-in-Ok-Some-clause-later g c = let l = c.loop.invariant.later in let m = c.turn_once.ensures.later in omega arith

pub returns-in-Ok-Some-clause-seat : goal.returns-in-Ok-Some-clause-seat
returns-in-Ok-Some-clause-seat g c =
    looks_more c.args.seat.now.known c.loop.seat.known c.turn_once.new.seat.known c.loop.invariant.seat c.turn_once.ensures.looked

pub returns-in-Err-clause-no_memory : goal.returns-in-Err-clause-no_memory
returns-in-Err-clause-no_memory g c =
    let a = request_answer g.W.Future.ReplyFuture.answer g.W.Stream.ReplyStream.answer in
    let b = serving (g.W.SharedService.answer c.args.service.now) (g.W.SharedService.hint c.args.service.now) in
    record {
      observed = λ t.
          let m = c.in-Err.ensures.no_memory.observed t in
          let r = c.loop.invariant.run.observed m.0 in
          (r.0, λ s h. broken_turned a b s c.args.client (below_of c.loop.kept.turn) c.args.look.now c.loop.kept.last c.loop.core (g.J.Recorder.noted c.args.journal.now) (g.J.Recorder.noted c.loop.journal) (g.J.Recorder.noted c.turn_once.new.journal) c.args.seat.now.known c.loop.seat.known c.turn_once.new.seat.known (g.L.Link.traffic c.args.link.now) (g.L.Link.traffic c.loop.link) (g.L.Link.traffic c.turn_once.new.link) (r.1 s h) m.1);
    }

pub returns-in-Err-clause-later : goal.returns-in-Err-clause-later
returns-in-Err-clause-later g c = let l = c.loop.invariant.later in let m = c.turn_once.ensures.later in omega arith

pub returns-in-Err-clause-seat : goal.returns-in-Err-clause-seat
returns-in-Err-clause-seat g c =
    looks_more c.args.seat.now.known c.loop.seat.known c.turn_once.new.seat.known c.loop.invariant.seat c.turn_once.ensures.looked
