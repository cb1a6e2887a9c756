use Rattle.dns_recorder.proofs.EventTimes.{timed_then}
use Rattle.dns_stream_driver.proofs.LookNewsLaws.{noted_news}
use Rattle.dns_stream_driver.proofs.look_news.note_news.Goals as goal

pub returns-clause-observed : goal.returns-clause-observed
returns-clause-observed g c = record {
  observed = λ t.
      let b = c.in_ok-note_shutdown.ensures.observed.observed t in
      let a = c.in_ok-note_version.ensures.observed.observed b.0 in
      (a.0, noted_news c.args.kept.now.last c.args.look.now (g.J.Recorder.noted c.args.journal.now) (g.J.Recorder.noted c.note_version.new.journal) (g.J.Recorder.noted c.note_shutdown.new.journal) a.1 b.1);
}

pub returns-clause-clock : goal.returns-clause-clock
returns-clause-clock g c = record {
  observed = λ t.
      let b = c.in_ok-note_shutdown.ensures.clock.observed t in
      let a = c.in_ok-note_version.ensures.clock.observed b.0 in
      (a.0, timed_then (g.J.Recorder.noted c.args.journal.now) (g.J.Recorder.noted c.note_version.new.journal) (g.J.Recorder.noted c.note_shutdown.new.journal) 0 0 0 (g.C.Clock.readings c.args.clock.now) (g.C.Clock.readings c.note_version.new.clock) (g.C.Clock.readings c.note_shutdown.new.clock) a.1 b.1);
}
