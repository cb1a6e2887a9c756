use Rattle.dns_stream_driver.proofs.FrameWrites.{took_some}
use Rattle.dns_stream_driver.proofs.writing.write_some.Goals as goal

pub returns-in-Took-clause-moves : goal.returns-in-Took-clause-moves
returns-in-Took-clause-moves g c = record {
  observed = λ t.
      let m = c.in-Took.ensures.moves.observed t in
      (m.0, took_some c.args.done c.in-Took.count c.args.frame.now (g.L.Link.traffic c.args.link.now) (g.L.Link.traffic c.write.new.self) m.1);
}
