use Rattle.std.proofs.Common.{Option}
use Rattle.dns_io.specs.Causes.{Observed}
use Rattle.dns_service.specs.PolledRequest.{request_answer}
use Rattle.dns_events.specs.declared.event.Why.{Why}
use Rattle.dns_recorder.specs.Clocks.{Timed}
use Rattle.dns_recorder.specs.Notes.{NotedWide}
use Rattle.dns_stream_driver.specs.Blames.{HeardFor}
use Rattle.dns_stream_driver.specs.Steps.{SeesLook, HeardNews}
use Rattle.dns_stream_driver.proofs.LookNewsLaws.{heard_news, heard_for, wide_news}
use Rattle.dns_stream_driver.proofs.Results.{on_err, if_ok}
use Rattle.dns_stream_driver.proofs.look_news.poll_book.Goals as goal

pub returns-in-Ok-clause-observed : goal.returns-in-Ok-clause-observed
returns-in-Ok-clause-observed g c =
    if_ok c.apply_look.result (λ (why : Option Why). SeesLook (request_answer g.W.Future.ReplyFuture.answer g.W.Stream.ReplyStream.answer) c.args.core.now c.apply_look.new.core c.look-look.result why)
    (λ (why : Option Why). Observed (g.J.Recorder.tells c.note_news.new.journal) (g.J.Recorder.tells c.args.journal.now) (HeardNews (request_answer g.W.Future.ReplyFuture.answer g.W.Stream.ReplyStream.answer) why c.args.core.now c.apply_look.new.core c.args.kept.now.last c.apply_look.new.kept.last (g.J.Recorder.noted c.args.journal.now) (g.J.Recorder.noted c.note_news.new.journal) c.args.seat.now.known c.look-look.new.seat.known))
    (λ why s. record {
      observed = λ t.
          let a = c.in-Ok.ensures.observed.observed t in
          (a.0, heard_news (request_answer g.W.Future.ReplyFuture.answer g.W.Stream.ReplyStream.answer) why c.args.core.now c.apply_look.new.core c.args.kept.now.last c.apply_look.new.kept.last c.look-look.result (g.J.Recorder.noted c.args.journal.now) (g.J.Recorder.noted c.note_news.new.journal) c.args.seat.now.known c.look-look.new.seat.known c.look-look.ensures.called a.1 c.apply_look.ensures.last s);
    })
    c.apply_look.ensures.sees

pub returns-in-Ok-clause-no_memory : goal.returns-in-Ok-clause-no_memory
returns-in-Ok-clause-no_memory g c =
    on_err c.apply_look.result (Observed (g.J.Recorder.tells c.note_news.new.journal) (g.J.Recorder.tells c.args.journal.now) (NotedWide (g.J.Recorder.noted c.args.journal.now) (g.J.Recorder.noted c.note_news.new.journal)))
    (record {
      observed = λ t.
          let a = c.in-Ok.ensures.observed.observed t in
          (a.0, wide_news c.args.kept.now.last c.look-look.result (g.J.Recorder.noted c.args.journal.now) (g.J.Recorder.noted c.note_news.new.journal) a.1);
    })

pub returns-in-Ok-clause-clock : goal.returns-in-Ok-clause-clock
returns-in-Ok-clause-clock g c =
    if_ok c.apply_look.result (λ (why : Option Why). SeesLook (request_answer g.W.Future.ReplyFuture.answer g.W.Stream.ReplyStream.answer) c.args.core.now c.apply_look.new.core c.look-look.result why)
    (λ (why : Option Why). Observed (g.C.Clock.tells c.note_news.new.clock × g.J.Recorder.tells c.note_news.new.journal) (g.C.Clock.tells c.args.clock.now × g.J.Recorder.tells c.args.journal.now) (Timed (g.J.Recorder.noted c.args.journal.now) (g.J.Recorder.noted c.note_news.new.journal) 0 0 (g.C.Clock.readings c.args.clock.now) (g.C.Clock.readings c.note_news.new.clock)))
    (λ why s. c.in-Ok.ensures.clock)
    c.apply_look.ensures.sees

pub returns-in-Ok-clause-blame : goal.returns-in-Ok-clause-blame
returns-in-Ok-clause-blame g c =
    if_ok c.apply_look.result (λ (why : Option Why). SeesLook (request_answer g.W.Future.ReplyFuture.answer g.W.Stream.ReplyStream.answer) c.args.core.now c.apply_look.new.core c.look-look.result why)
    (λ (why : Option Why). HeardFor (request_answer g.W.Future.ReplyFuture.answer g.W.Stream.ReplyStream.answer) why c.args.core.now c.apply_look.new.core c.args.seat.now.known c.look-look.new.seat.known)
    (λ why s. heard_for (request_answer g.W.Future.ReplyFuture.answer g.W.Stream.ReplyStream.answer) why c.args.core.now c.apply_look.new.core c.look-look.result c.args.seat.now.known c.look-look.new.seat.known c.look-look.ensures.called s)
    c.apply_look.ensures.sees
