use Rattle.dns_session.specs.Serving.{serving}
use Rattle.dns_stream_driver.proofs.Ends.{timed_whole}
use Rattle.dns_stream_driver.proofs.connection.serve_connection.Goals as goal

pub returns-in-Ok-clause-clock : goal.returns-in-Ok-clause-clock
returns-in-Ok-clause-clock g c = record {
  observed = λ t.
      let v = c.close.ensures.moves.observed t.0 in
      let a = c.in-Ok.ensures.clock.observed (v.0, t.1, t.2) in
      let o = c.in-Ok.ensures.observed.observed (v.0, t.2) in (
        a.0,
        timed_whole (serving (g.W.SharedService.answer c.args.service.now) (g.W.SharedService.hint c.args.service.now)) c.in-Ok.why c.args.client c.args.addr c.args.look.now (g.J.Recorder.noted c.args.journal.now) (g.J.Recorder.noted c.serve_offer-served.new.journal)
            c.args.seat.known c.serve_offer-served.new.seat.known (g.L.Link.traffic c.args.link.now) (g.L.Link.traffic c.serve_offer-served.new.link) (g.L.Link.traffic c.close.new.self) (g.L.Link.traffic c.args.link.now).full_writes
            (g.C.Clock.readings c.args.clock.now) (g.C.Clock.readings c.serve_offer-served.new.clock) o.1 a.1 v.1,
      );
}
