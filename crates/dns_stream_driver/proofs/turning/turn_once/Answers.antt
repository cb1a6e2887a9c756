use Rattle.std.proofs.Common.{Option, refl, inl, inr}
use Rattle.dns_service.specs.PolledRequest.{request_answer}
use Rattle.dns_events.specs.declared.event.Why.{Why}
use Rattle.dns_session.specs.Serving.{serving}
use Rattle.dns_recorder.specs.Clocks.{Timed}
use Rattle.dns_recorder.proofs.EventTimes.{timed_then, timed_shift}
use Rattle.dns_stream_driver.specs.Blames.{NotedWrite, ActedFor}
use Rattle.dns_stream_driver.specs.Rounds.{below_of}
use Rattle.dns_stream_driver.specs.Steps.{Acted, ActedPart}
use Rattle.dns_stream_driver.specs.Turning.{MadeTurn, TurnedPart, TurnedFor}
use Rattle.dns_stream_driver.proofs.Results.{if_ok, tells_both, tells_then, refused_then}
use Rattle.dns_stream_driver.proofs.turning.turn_once.Goals as goal

pub returns-in-Ok-None-clause-observed : goal.returns-in-Ok-None-clause-observed
returns-in-Ok-None-clause-observed g c =
    let a = request_answer g.W.Future.ReplyFuture.answer g.W.Stream.ReplyStream.answer in
    let b = serving (g.W.SharedService.answer c.args.service.now) (g.W.SharedService.hint c.args.service.now) in
    rw (← c.poll_book.ensures.turn, c.act.ensures.last) (tells_then c.act.result (g.L.Link.tells c.act.new.link × g.J.Recorder.tells c.act.new.journal) (g.L.Link.tells c.args.link.now × g.J.Recorder.tells c.poll_book.new.journal) (g.L.Link.tells c.args.link.now × g.J.Recorder.tells c.args.journal.now)
    (λ (why : Option Why). (Acted a b c.args.client (below_of c.poll_book.new.kept.turn) (below_of c.act.new.kept.turn) why c.poll_book.new.core c.act.new.core (g.J.Recorder.noted c.poll_book.new.journal) (g.J.Recorder.noted c.act.new.journal) (g.L.Link.traffic c.args.link.now) (g.L.Link.traffic c.act.new.link)) × (NotedWrite a c.poll_book.new.core (g.J.Recorder.noted c.poll_book.new.journal) (g.J.Recorder.noted c.act.new.journal) (g.L.Link.traffic c.args.link.now) (g.L.Link.traffic c.act.new.link)))
    (λ (why : Option Why). MadeTurn a b c.args.client (below_of c.poll_book.new.kept.turn) (below_of c.act.new.kept.turn) why c.args.core.now c.act.new.core c.args.kept.now.last c.poll_book.new.kept.last (g.J.Recorder.noted c.args.journal.now) (g.J.Recorder.noted c.act.new.journal) c.args.seat.now.known c.poll_book.new.seat.known (g.L.Link.traffic c.args.link.now) (g.L.Link.traffic c.act.new.link))
    (λ (m : g.L.Link.tells c.args.link.now × g.J.Recorder.tells c.poll_book.new.journal). let h = (rw c.in-Ok-None.field-0-is at c.in-Ok-None.ensures.observed).observed m.1 in ((m.0, h.0), λ why p. record { either = inr (record { between = c.poll_book.new.core; seen = (g.J.Recorder.noted c.poll_book.new.journal); heard = h.1; acted = p.0; wrote = p.1 }) }))
    (tells_both c.act.result (g.L.Link.tells c.act.new.link × g.J.Recorder.tells c.act.new.journal) (g.L.Link.tells c.args.link.now × g.J.Recorder.tells c.poll_book.new.journal) (λ (why : Option Why). Acted a b c.args.client (below_of c.poll_book.new.kept.turn) (below_of c.act.new.kept.turn) why c.poll_book.new.core c.act.new.core (g.J.Recorder.noted c.poll_book.new.journal) (g.J.Recorder.noted c.act.new.journal) (g.L.Link.traffic c.args.link.now) (g.L.Link.traffic c.act.new.link)) (λ (why : Option Why). NotedWrite a c.poll_book.new.core (g.J.Recorder.noted c.poll_book.new.journal) (g.J.Recorder.noted c.act.new.journal) (g.L.Link.traffic c.args.link.now) (g.L.Link.traffic c.act.new.link)) c.act.ensures.observed c.act.ensures.again))

pub returns-in-Ok-None-clause-clock : goal.returns-in-Ok-None-clause-clock
returns-in-Ok-None-clause-clock g c =
    tells_then c.act.result (g.L.Link.tells c.act.new.link × g.C.Clock.tells c.act.new.clock × g.J.Recorder.tells c.act.new.journal) (g.L.Link.tells c.args.link.now × g.C.Clock.tells c.poll_book.new.clock × g.J.Recorder.tells c.poll_book.new.journal) (g.L.Link.tells c.args.link.now × g.C.Clock.tells c.args.clock.now × g.J.Recorder.tells c.args.journal.now)
    (λ (why : Option Why). Timed (g.J.Recorder.noted c.poll_book.new.journal) (g.J.Recorder.noted c.act.new.journal) (g.L.Link.traffic c.args.link.now).full_writes (g.L.Link.traffic c.act.new.link).full_writes (g.C.Clock.readings c.poll_book.new.clock) (g.C.Clock.readings c.act.new.clock))
    (λ (why : Option Why). Timed (g.J.Recorder.noted c.args.journal.now) (g.J.Recorder.noted c.act.new.journal) (g.L.Link.traffic c.args.link.now).full_writes (g.L.Link.traffic c.act.new.link).full_writes (g.C.Clock.readings c.args.clock.now) (g.C.Clock.readings c.act.new.clock))
    (λ (m : g.L.Link.tells c.args.link.now × g.C.Clock.tells c.poll_book.new.clock × g.J.Recorder.tells c.poll_book.new.journal). let h = c.in-Ok-None.ensures.clock.observed (m.1, m.2) in
    ((m.0, h.0.0, h.0.1), λ why p. timed_then (g.J.Recorder.noted c.args.journal.now) (g.J.Recorder.noted c.poll_book.new.journal) (g.J.Recorder.noted c.act.new.journal) (g.L.Link.traffic c.args.link.now).full_writes (g.L.Link.traffic c.args.link.now).full_writes (g.L.Link.traffic c.act.new.link).full_writes (g.C.Clock.readings c.args.clock.now) (g.C.Clock.readings c.poll_book.new.clock) (g.C.Clock.readings c.act.new.clock) (timed_shift (g.J.Recorder.noted c.args.journal.now) (g.J.Recorder.noted c.poll_book.new.journal) (g.L.Link.traffic c.args.link.now).full_writes (g.C.Clock.readings c.args.clock.now) (g.C.Clock.readings c.poll_book.new.clock) h.1) p))
    c.act.ensures.clock

pub returns-in-Ok-None-clause-no_memory : goal.returns-in-Ok-None-clause-no_memory
returns-in-Ok-None-clause-no_memory g c =
    let a = request_answer g.W.Future.ReplyFuture.answer g.W.Stream.ReplyStream.answer in
    let b = serving (g.W.SharedService.answer c.args.service.now) (g.W.SharedService.hint c.args.service.now) in
    rw (← c.poll_book.ensures.turn) (refused_then c.act.result (g.L.Link.tells c.act.new.link × g.J.Recorder.tells c.act.new.journal) (g.L.Link.tells c.args.link.now × g.J.Recorder.tells c.poll_book.new.journal) (g.L.Link.tells c.args.link.now × g.J.Recorder.tells c.args.journal.now)
    (ActedPart a c.args.client (below_of c.poll_book.new.kept.turn) c.poll_book.new.core (g.J.Recorder.noted c.poll_book.new.journal) (g.J.Recorder.noted c.act.new.journal) (g.L.Link.traffic c.args.link.now) (g.L.Link.traffic c.act.new.link))
    (TurnedPart a b c.args.client (below_of c.poll_book.new.kept.turn) c.args.core.now c.args.kept.now.last (g.J.Recorder.noted c.args.journal.now) (g.J.Recorder.noted c.act.new.journal) c.args.seat.now.known c.poll_book.new.seat.known (g.L.Link.traffic c.args.link.now) (g.L.Link.traffic c.act.new.link))
    (λ (m : g.L.Link.tells c.args.link.now × g.J.Recorder.tells c.poll_book.new.journal). let h = (rw c.in-Ok-None.field-0-is at c.in-Ok-None.ensures.observed).observed m.1 in ((m.0, h.0), λ p. record { either = inr (record { between = c.poll_book.new.core; look = c.poll_book.new.kept.last; seen = (g.J.Recorder.noted c.poll_book.new.journal); heard = h.1; acted = p }) }))
    c.act.ensures.no_memory)

pub returns-in-Ok-None-clause-cause : goal.returns-in-Ok-None-clause-cause
returns-in-Ok-None-clause-cause g c =
    let a = request_answer g.W.Future.ReplyFuture.answer g.W.Stream.ReplyStream.answer in
    let b = serving (g.W.SharedService.answer c.args.service.now) (g.W.SharedService.hint c.args.service.now) in
    if_ok c.act.result
    (λ (why : Option Why). ActedFor a b why c.poll_book.new.core c.act.new.core (g.L.Link.faults c.args.link.now) (g.L.Link.faults c.act.new.link))
    (λ (why : Option Why). TurnedFor a b why c.args.core.now c.act.new.core c.args.seat.now.known c.poll_book.new.seat.known (g.L.Link.faults c.args.link.now) (g.L.Link.faults c.act.new.link))
    (λ why p. record { either = inr (record { between = c.poll_book.new.core; heard = rw c.in-Ok-None.field-0-is at c.in-Ok-None.ensures.blame; acted = p }) })
    c.act.ensures.blame

pub returns-in-Ok-Some-clause-observed : goal.returns-in-Ok-Some-clause-observed
returns-in-Ok-Some-clause-observed g c =
    record {
      observed = λ t.
          let h = (rw c.in-Ok-Some.field-0-is at c.in-Ok-Some.ensures.observed).observed t.1 in
          ((t.0, h.0), record { either = inl (record { reason = c.in-Ok-Some.why; why_is = refl; heard = h.1; still = refl }) });
    }

pub returns-in-Ok-Some-clause-clock : goal.returns-in-Ok-Some-clause-clock
returns-in-Ok-Some-clause-clock g c =
    record {
      observed = λ t.
          let h = c.in-Ok-Some.ensures.clock.observed (t.1, t.2) in
          ((t.0, h.0.0, h.0.1), timed_shift (g.J.Recorder.noted c.args.journal.now) (g.J.Recorder.noted c.poll_book.new.journal) (g.L.Link.traffic c.args.link.now).full_writes (g.C.Clock.readings c.args.clock.now) (g.C.Clock.readings c.poll_book.new.clock) h.1);
    }

pub returns-in-Ok-Some-clause-cause : goal.returns-in-Ok-Some-clause-cause
returns-in-Ok-Some-clause-cause g c =
    record { either = inl (record { reason = c.in-Ok-Some.why; why_is = refl; heard = rw c.in-Ok-Some.field-0-is at c.in-Ok-Some.ensures.blame; still = refl }) }

pub returns-in-Err-clause-no_memory : goal.returns-in-Err-clause-no_memory
returns-in-Err-clause-no_memory g c =
    record {
      observed = λ t.
          let h = c.in-Err.ensures.no_memory.observed t.1 in
          ((t.0, h.0), record { either = inl (h.1, refl) });
    }

pub returns-in-Ok-None-clause-later : goal.returns-in-Ok-None-clause-later
returns-in-Ok-None-clause-later g c = c.act.ensures.later
