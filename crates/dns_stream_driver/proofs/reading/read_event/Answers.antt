use Rattle.dns_stream_driver.proofs.Waits.{timed_read}
use Rattle.dns_stream_driver.proofs.reading.read_event.Goals as goal

pub returns-in-Ok-clause-clock : goal.returns-in-Ok-clause-clock
returns-in-Ok-clause-clock g c = record {
  observed = λ t.
      let r = c.now_is.ensures.dated.observed t.1 in
      let m = c.in-Ok.ensures.room.observed t.0 in (
        (m.0, r.0),
        timed_read c.now_is.result c.in-Ok.kind (g.L.Link.traffic c.args.link.now).full_writes (g.L.Link.traffic c.read_kind.new.link).full_writes (g.C.Clock.readings c.args.clock.now) (g.C.Clock.readings c.now_is.new.clock)
            c.in-Ok.ensures.kind c.now_is.ensures.kind m.1 r.1,
      );
}
