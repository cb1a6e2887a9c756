use Rattle.dns_service.specs.PolledRequest.{request_answer}
use Rattle.dns_events.specs.declared.event.Why.{Why}
use Rattle.dns_session.specs.Serving.{serving}
use Rattle.dns_session.specs.Slate.{Slate}
use Rattle.dns_stream_driver.specs.Shown.{Causes}
use Rattle.dns_stream_driver.specs.Story.{Broken, began}
use Rattle.dns_stream_driver.specs.Turning.{BeginsOpen, ClosingStory}
use Rattle.dns_stream_driver.proofs.Appends.{looks_none}
use Rattle.dns_stream_driver.proofs.Breaking.{broken_none}
use Rattle.dns_stream_driver.proofs.Ends.{begins}
use Rattle.dns_stream_driver.proofs.Results.{if_ok, tells_then, refused_then}
use Rattle.dns_stream_driver.proofs.connection.admit_and_serve.Goals as goal

pub returns-in-Err-clause-seat : goal.returns-in-Err-clause-seat
returns-in-Err-clause-seat g c = looks_none c.args.seat.now.known

pub returns-in-Err-clause-no_memory : goal.returns-in-Err-clause-no_memory
returns-in-Err-clause-no_memory g c =
    let b = serving (g.W.SharedService.answer c.args.service.now) (g.W.SharedService.hint c.args.service.now) in
    record { observed = λ m. (m, broken_none b (began c.args.client c.args.addr c.args.at c.args.look.now) c.args.client (g.J.Recorder.noted c.args.journal.now) (g.L.Link.traffic c.args.link.now)) }

pub returns-in-Ok-clause-observed : goal.returns-in-Ok-clause-observed
returns-in-Ok-clause-observed g c =
    let a = request_answer g.W.Future.ReplyFuture.answer g.W.Stream.ReplyStream.answer in
    let b = serving (g.W.SharedService.answer c.args.service.now) (g.W.SharedService.hint c.args.service.now) in
    let u : Slate = began c.args.client c.args.addr c.args.at c.args.look.now in
    tells_then c.serve_core-served.result (g.L.Link.tells c.serve_core-served.new.link × g.J.Recorder.tells c.serve_core-served.new.journal) (g.L.Link.tells c.args.link.now × g.J.Recorder.tells c.args.journal.now) (g.L.Link.tells c.args.link.now × g.J.Recorder.tells c.args.journal.now)
    (λ (why : Why). (s : Slate) → BeginsOpen a b c.in-Ok.core c.args.look.now s → ClosingStory b s c.args.client c.args.look.now why (g.J.Recorder.noted c.args.journal.now) (g.J.Recorder.noted c.serve_core-served.new.journal) c.args.seat.now.known c.serve_core-served.new.seat.known (g.L.Link.traffic c.args.link.now) (g.L.Link.traffic c.serve_core-served.new.link))
    (λ (why : Why). ClosingStory b u c.args.client c.args.look.now why (g.J.Recorder.noted c.args.journal.now) (g.J.Recorder.noted c.serve_core-served.new.journal) c.args.seat.now.known c.serve_core-served.new.seat.known (g.L.Link.traffic c.args.link.now) (g.L.Link.traffic c.serve_core-served.new.link))
    (λ (m : g.L.Link.tells c.args.link.now × g.J.Recorder.tells c.args.journal.now). (m, λ why p. p u (begins a b c.in-Ok.core c.args.client c.args.addr c.args.at c.args.look.now c.in-Ok.ensures.begun c.in-Ok.ensures.version)))
    c.serve_core-served.ensures.observed

pub returns-in-Ok-clause-clock : goal.returns-in-Ok-clause-clock
returns-in-Ok-clause-clock g c = c.serve_core-served.ensures.clock

pub returns-in-Ok-clause-no_memory : goal.returns-in-Ok-clause-no_memory
returns-in-Ok-clause-no_memory g c =
    let a = request_answer g.W.Future.ReplyFuture.answer g.W.Stream.ReplyStream.answer in
    let b = serving (g.W.SharedService.answer c.args.service.now) (g.W.SharedService.hint c.args.service.now) in
    let u : Slate = began c.args.client c.args.addr c.args.at c.args.look.now in
    refused_then c.serve_core-served.result (g.L.Link.tells c.serve_core-served.new.link × g.J.Recorder.tells c.serve_core-served.new.journal) (g.L.Link.tells c.args.link.now × g.J.Recorder.tells c.args.journal.now) (g.L.Link.tells c.args.link.now × g.J.Recorder.tells c.args.journal.now)
    ((s : Slate) → BeginsOpen a b c.in-Ok.core c.args.look.now s → Broken b s c.args.client (g.J.Recorder.noted c.args.journal.now) (g.J.Recorder.noted c.serve_core-served.new.journal) (g.L.Link.traffic c.args.link.now) (g.L.Link.traffic c.serve_core-served.new.link))
    (Broken b u c.args.client (g.J.Recorder.noted c.args.journal.now) (g.J.Recorder.noted c.serve_core-served.new.journal) (g.L.Link.traffic c.args.link.now) (g.L.Link.traffic c.serve_core-served.new.link))
    (λ (m : g.L.Link.tells c.args.link.now × g.J.Recorder.tells c.args.journal.now). (m, λ p. p u (begins a b c.in-Ok.core c.args.client c.args.addr c.args.at c.args.look.now c.in-Ok.ensures.begun c.in-Ok.ensures.version)))
    c.serve_core-served.ensures.no_memory

pub returns-in-Ok-clause-cause : goal.returns-in-Ok-clause-cause
returns-in-Ok-clause-cause g c =
    let a = request_answer g.W.Future.ReplyFuture.answer g.W.Stream.ReplyStream.answer in
    let b = serving (g.W.SharedService.answer c.args.service.now) (g.W.SharedService.hint c.args.service.now) in
    let u : Slate = began c.args.client c.args.addr c.args.at c.args.look.now in
    if_ok c.serve_core-served.result
    (λ (why : Why). (s : Slate) → BeginsOpen a b c.in-Ok.core c.args.look.now s → Causes why c.args.seat.now.known c.serve_core-served.new.seat.known (g.L.Link.faults c.args.link.now) (g.L.Link.faults c.serve_core-served.new.link))
    (λ (why : Why). Causes why c.args.seat.now.known c.serve_core-served.new.seat.known (g.L.Link.faults c.args.link.now) (g.L.Link.faults c.serve_core-served.new.link))
    (λ why p. p u (begins a b c.in-Ok.core c.args.client c.args.addr c.args.at c.args.look.now c.in-Ok.ensures.begun c.in-Ok.ensures.version))
    c.serve_core-served.ensures.cause

pub returns-in-Ok-clause-later : goal.returns-in-Ok-clause-later
returns-in-Ok-clause-later g c = c.serve_core-served.ensures.later
