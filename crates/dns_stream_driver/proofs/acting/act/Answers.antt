use Rattle.dns_service.specs.PolledRequest.{request_answer}
use Rattle.dns_session.specs.Serving.{serving}
use Rattle.dns_stream_driver.specs.Rounds.{below_of}
use Rattle.dns_stream_driver.proofs.OwnEvents.{acted_told, acted_clock, acted_blame, acted_again, acted_part}
use Rattle.dns_stream_driver.proofs.acting.act.Goals as goal

pub returns-in-Ok-clause-observed : goal.returns-in-Ok-clause-observed
returns-in-Ok-clause-observed g c =
    acted_told (request_answer g.W.Future.ReplyFuture.answer g.W.Stream.ReplyStream.answer) (serving (g.W.SharedService.answer c.args.service.now) (g.W.SharedService.hint c.args.service.now)) c.hand_over.result c.in-Ok.event (g.L.Link.tells c.args.link.now) (g.L.Link.tells c.own_event.new.link) (g.J.Recorder.tells c.args.journal.now) (g.J.Recorder.tells c.hand_over.new.journal) c.args.client (below_of c.args.kept.now.turn) (below_of c.hand_over.new.kept.turn) c.args.core.now c.hand_over.new.core (g.J.Recorder.noted c.args.journal.now) (g.J.Recorder.noted c.hand_over.new.journal) (g.L.Link.traffic c.args.link.now) (g.L.Link.traffic c.own_event.new.link)
    c.in-Ok.ensures.chosen c.hand_over.ensures.noted c.hand_over.ensures.taken c.hand_over.ensures.turn

pub returns-in-Ok-clause-clock : goal.returns-in-Ok-clause-clock
returns-in-Ok-clause-clock g c =
    acted_clock c.hand_over.result c.in-Ok.event (g.L.Link.tells c.args.link.now) (g.L.Link.tells c.own_event.new.link) (g.C.Clock.tells c.args.clock.now) (g.C.Clock.tells c.own_event.new.clock) (g.J.Recorder.tells c.args.journal.now) (g.J.Recorder.tells c.hand_over.new.journal) (g.J.Recorder.noted c.args.journal.now) (g.J.Recorder.noted c.hand_over.new.journal) (g.L.Link.traffic c.args.link.now).full_writes (g.L.Link.traffic c.own_event.new.link).full_writes (g.C.Clock.readings c.args.clock.now) (g.C.Clock.readings c.own_event.new.clock)
    c.in-Ok.ensures.clock c.hand_over.ensures.noted

pub returns-in-Ok-clause-blame : goal.returns-in-Ok-clause-blame
returns-in-Ok-clause-blame g c =
    acted_blame (request_answer g.W.Future.ReplyFuture.answer g.W.Stream.ReplyStream.answer) (serving (g.W.SharedService.answer c.args.service.now) (g.W.SharedService.hint c.args.service.now)) c.hand_over.result c.in-Ok.event (below_of c.args.kept.now.turn) c.args.core.now c.hand_over.new.core (g.L.Link.faults c.args.link.now) (g.L.Link.faults c.own_event.new.link) c.in-Ok.ensures.blame c.hand_over.ensures.taken

pub returns-in-Ok-clause-again : goal.returns-in-Ok-clause-again
returns-in-Ok-clause-again g c = acted_again (request_answer g.W.Future.ReplyFuture.answer g.W.Stream.ReplyStream.answer) c.hand_over.result c.in-Ok.event (g.L.Link.tells c.args.link.now) (g.L.Link.tells c.own_event.new.link) (g.J.Recorder.tells c.args.journal.now) (g.J.Recorder.tells c.hand_over.new.journal) c.args.core.now (g.J.Recorder.noted c.args.journal.now) (g.J.Recorder.noted c.hand_over.new.journal) (g.L.Link.traffic c.args.link.now) (g.L.Link.traffic c.own_event.new.link) c.in-Ok.ensures.again c.hand_over.ensures.noted

pub returns-in-Ok-clause-no_memory : goal.returns-in-Ok-clause-no_memory
returns-in-Ok-clause-no_memory g c = acted_part (request_answer g.W.Future.ReplyFuture.answer g.W.Stream.ReplyStream.answer) c.hand_over.result c.in-Ok.event (g.L.Link.tells c.args.link.now) (g.L.Link.tells c.own_event.new.link) (g.J.Recorder.tells c.args.journal.now) (g.J.Recorder.tells c.hand_over.new.journal) c.args.client (below_of c.args.kept.now.turn) c.args.core.now (g.J.Recorder.noted c.args.journal.now) (g.J.Recorder.noted c.hand_over.new.journal) (g.L.Link.traffic c.args.link.now) (g.L.Link.traffic c.own_event.new.link) c.in-Ok.ensures.chosen c.hand_over.ensures.noted

pub returns-in-Ok-clause-later : goal.returns-in-Ok-clause-later
returns-in-Ok-clause-later g c = c.in-Ok.ensures.later

pub returns-in-Err-clause-later : goal.returns-in-Err-clause-later
returns-in-Err-clause-later g c = c.in-Err.ensures.later
