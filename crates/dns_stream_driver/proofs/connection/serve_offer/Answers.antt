use Rattle.dns_events.specs.declared.event.Why.{Why}
use Rattle.dns_session.specs.Serving.{serving}
use Rattle.dns_recorder.specs.Clocks.{Timed}
use Rattle.dns_recorder.proofs.EventTimes.{timed_then, timed_shift}
use Rattle.dns_stream_driver.specs.Endings.{WasOffered, Unserved, ShownFrom}
use Rattle.dns_stream_driver.specs.Story.{Broken, began}
use Rattle.dns_stream_driver.specs.Turning.{ClosingStory}
use Rattle.dns_stream_driver.proofs.Appends.{looks_none}
use Rattle.dns_stream_driver.proofs.Ends.{offered, shown_offered, unserved_late}
use Rattle.dns_stream_driver.proofs.Results.{tells_then, refused_then}
use Rattle.dns_stream_driver.proofs.connection.serve_offer.Goals as goal

pub returns-in-Err-clause-seat : goal.returns-in-Err-clause-seat
returns-in-Err-clause-seat g c = looks_none c.args.seat.now.known

pub returns-in-Ok-clause-observed : goal.returns-in-Ok-clause-observed
returns-in-Ok-clause-observed g c =
    let b = serving (g.W.SharedService.answer c.args.service.now) (g.W.SharedService.hint c.args.service.now) in
    tells_then c.admit_and_serve.result (g.L.Link.tells c.admit_and_serve.new.link × g.J.Recorder.tells c.admit_and_serve.new.journal) (g.L.Link.tells c.args.link.now × g.J.Recorder.tells c.note_moment.new.journal) (g.L.Link.tells c.args.link.now × g.J.Recorder.tells c.args.journal.now)
    (λ (why : Why). ClosingStory b (began c.args.client c.args.addr c.in-Ok.at c.args.look.now) c.args.client c.args.look.now why (g.J.Recorder.noted c.note_moment.new.journal) (g.J.Recorder.noted c.admit_and_serve.new.journal) c.args.seat.now.known c.admit_and_serve.new.seat.known (g.L.Link.traffic c.args.link.now) (g.L.Link.traffic c.admit_and_serve.new.link))
    (λ (why : Why). WasOffered b why c.args.client c.args.addr c.args.look.now (g.J.Recorder.noted c.args.journal.now) (g.J.Recorder.noted c.admit_and_serve.new.journal) c.args.seat.now.known c.admit_and_serve.new.seat.known (g.L.Link.traffic c.args.link.now) (g.L.Link.traffic c.admit_and_serve.new.link))
    (λ (m : g.L.Link.tells c.args.link.now × g.J.Recorder.tells c.note_moment.new.journal). let o = c.in-Ok.ensures.observed.observed m.1 in ((m.0, o.0), λ why p. offered b why c.args.client c.args.addr c.in-Ok.at c.args.look.now (g.J.Recorder.noted c.args.journal.now) (g.J.Recorder.noted c.note_moment.new.journal) (g.J.Recorder.noted c.admit_and_serve.new.journal) c.args.seat.now.known c.admit_and_serve.new.seat.known (g.L.Link.traffic c.args.link.now) (g.L.Link.traffic c.admit_and_serve.new.link) o.1 p.story))
    c.admit_and_serve.ensures.observed

pub returns-in-Ok-clause-shown : goal.returns-in-Ok-clause-shown
returns-in-Ok-clause-shown g c =
    let b = serving (g.W.SharedService.answer c.args.service.now) (g.W.SharedService.hint c.args.service.now) in
    tells_then c.admit_and_serve.result (g.L.Link.tells c.admit_and_serve.new.link × g.J.Recorder.tells c.admit_and_serve.new.journal) (g.L.Link.tells c.args.link.now × g.J.Recorder.tells c.note_moment.new.journal) (g.L.Link.tells c.args.link.now × g.J.Recorder.tells c.args.journal.now)
    (λ (why : Why). ClosingStory b (began c.args.client c.args.addr c.in-Ok.at c.args.look.now) c.args.client c.args.look.now why (g.J.Recorder.noted c.note_moment.new.journal) (g.J.Recorder.noted c.admit_and_serve.new.journal) c.args.seat.now.known c.admit_and_serve.new.seat.known (g.L.Link.traffic c.args.link.now) (g.L.Link.traffic c.admit_and_serve.new.link))
    (λ (why : Why). ShownFrom b why c.args.client c.args.addr c.args.look.now (g.J.Recorder.noted c.args.journal.now) (g.J.Recorder.noted c.admit_and_serve.new.journal) (g.L.Link.traffic c.args.link.now) (g.L.Link.traffic c.admit_and_serve.new.link))
    (λ (m : g.L.Link.tells c.args.link.now × g.J.Recorder.tells c.note_moment.new.journal). let o = c.in-Ok.ensures.observed.observed m.1 in ((m.0, o.0), λ why p. shown_offered b why c.args.client c.args.addr c.in-Ok.at c.args.look.now (g.J.Recorder.noted c.args.journal.now) (g.J.Recorder.noted c.note_moment.new.journal) (g.J.Recorder.noted c.admit_and_serve.new.journal) (g.L.Link.traffic c.args.link.now) (g.L.Link.traffic c.admit_and_serve.new.link) o.1 p.shown))
    c.admit_and_serve.ensures.observed

pub returns-in-Ok-clause-no_memory : goal.returns-in-Ok-clause-no_memory
returns-in-Ok-clause-no_memory g c =
    let b = serving (g.W.SharedService.answer c.args.service.now) (g.W.SharedService.hint c.args.service.now) in
    refused_then c.admit_and_serve.result (g.L.Link.tells c.admit_and_serve.new.link × g.J.Recorder.tells c.admit_and_serve.new.journal) (g.L.Link.tells c.args.link.now × g.J.Recorder.tells c.note_moment.new.journal) (g.L.Link.tells c.args.link.now × g.J.Recorder.tells c.args.journal.now)
    (Broken b (began c.args.client c.args.addr c.in-Ok.at c.args.look.now) c.args.client (g.J.Recorder.noted c.note_moment.new.journal) (g.J.Recorder.noted c.admit_and_serve.new.journal) (g.L.Link.traffic c.args.link.now) (g.L.Link.traffic c.admit_and_serve.new.link))
    (Unserved b c.args.client c.args.addr c.args.look.now (g.J.Recorder.noted c.args.journal.now) (g.J.Recorder.noted c.admit_and_serve.new.journal) (g.L.Link.traffic c.args.link.now) (g.L.Link.traffic c.admit_and_serve.new.link))
    (λ (m : g.L.Link.tells c.args.link.now × g.J.Recorder.tells c.note_moment.new.journal). let o = c.in-Ok.ensures.observed.observed m.1 in ((m.0, o.0), λ p. unserved_late b c.args.client c.args.addr c.in-Ok.at c.args.look.now (g.J.Recorder.noted c.args.journal.now) (g.J.Recorder.noted c.note_moment.new.journal) (g.J.Recorder.noted c.admit_and_serve.new.journal) (g.L.Link.traffic c.args.link.now) (g.L.Link.traffic c.admit_and_serve.new.link) o.1 p))
    c.admit_and_serve.ensures.no_memory

pub returns-in-Ok-clause-cause : goal.returns-in-Ok-clause-cause
returns-in-Ok-clause-cause g c = c.admit_and_serve.ensures.cause

pub returns-in-Ok-clause-clock : goal.returns-in-Ok-clause-clock
returns-in-Ok-clause-clock g c =
    let f = (g.L.Link.traffic c.args.link.now).full_writes in
    let q = g.C.Clock.readings c.args.clock.now in
    let q1 = g.C.Clock.readings c.note_moment.new.clock in
    tells_then c.admit_and_serve.result (g.L.Link.tells c.admit_and_serve.new.link × g.C.Clock.tells c.admit_and_serve.new.clock × g.J.Recorder.tells c.admit_and_serve.new.journal) (g.L.Link.tells c.args.link.now × g.C.Clock.tells c.note_moment.new.clock × g.J.Recorder.tells c.note_moment.new.journal) (g.L.Link.tells c.args.link.now × g.C.Clock.tells c.args.clock.now × g.J.Recorder.tells c.args.journal.now)
    (λ (why : Why). Timed (g.J.Recorder.noted c.note_moment.new.journal) (g.J.Recorder.noted c.admit_and_serve.new.journal) f (g.L.Link.traffic c.admit_and_serve.new.link).full_writes q1 (g.C.Clock.readings c.admit_and_serve.new.clock))
    (λ (why : Why). Timed (g.J.Recorder.noted c.args.journal.now) (g.J.Recorder.noted c.admit_and_serve.new.journal) f (g.L.Link.traffic c.admit_and_serve.new.link).full_writes q (g.C.Clock.readings c.admit_and_serve.new.clock))
    (λ (m : g.L.Link.tells c.args.link.now × g.C.Clock.tells c.note_moment.new.clock × g.J.Recorder.tells c.note_moment.new.journal). let o = c.in-Ok.ensures.clock.observed (m.1, m.2) in
    ((m.0, o.0.0, o.0.1), λ why p. timed_then (g.J.Recorder.noted c.args.journal.now) (g.J.Recorder.noted c.note_moment.new.journal) (g.J.Recorder.noted c.admit_and_serve.new.journal) f f (g.L.Link.traffic c.admit_and_serve.new.link).full_writes q q1 (g.C.Clock.readings c.admit_and_serve.new.clock) (timed_shift (g.J.Recorder.noted c.args.journal.now) (g.J.Recorder.noted c.note_moment.new.journal) f q q1 o.1) p))
    c.admit_and_serve.ensures.clock

pub returns-in-Ok-clause-later : goal.returns-in-Ok-clause-later
returns-in-Ok-clause-later g c = c.admit_and_serve.ensures.later
