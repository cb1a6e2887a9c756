use Rattle.std.proofs.Common.{arith, ◌∙◌}
use Rattle.dns_stream_driver.proofs.FrameWrites.{wrote_on, wrote_end, waited_on, waited_end, blames_on, again_on}
use Rattle.dns_stream_driver.proofs.writing.write_frame.Goals as goal

pub loop-preserved : goal.loop-preserved
loop-preserved g c = record {
  moves = record {
    observed = λ t.
        let m = c.in-Ok.ensures.moves.observed t in
        let r = c.loop.invariant.moves.observed m.0 in
        (r.0, wrote_on c.loop.done c.in-Ok.count c.args.frame.now (g.L.Link.traffic c.args.link.now) (g.L.Link.traffic c.loop.link) (g.L.Link.traffic c.write_some.new.link) r.1 m.1);
  };
  clock = record {
    observed = λ t.
        let m = c.in-Ok.ensures.clock.observed t in
        let r = c.loop.invariant.clock.observed m.0 in
        (r.0, waited_on (g.L.Link.traffic c.args.link.now).full_writes (g.L.Link.traffic c.loop.link).full_writes (g.L.Link.traffic c.write_some.new.link).full_writes (g.C.Clock.readings c.args.clock.now) (g.C.Clock.readings c.loop.clock) (g.C.Clock.readings c.write_some.new.clock) r.1 m.1);
  };
  faults = c.in-Ok.ensures.blame ∙ c.loop.invariant.faults;
  again = record {
    observed = λ t.
        let m = c.in-Ok.ensures.again.observed t in
        let r = c.loop.invariant.again.observed m.0 in
        (r.0, let p = r.1 in let q = m.1 in omega arith);
  };
  bound = c.in-Ok.ensures.bound;
}

pub returns-in-Err-clause-moves : goal.returns-in-Err-clause-moves
returns-in-Err-clause-moves g c = record {
  observed = λ t.
      let m = c.in-Err.ensures.moves.observed t in
      let r = c.loop.invariant.moves.observed m.0 in (
        r.0,
        record {
          written = c.loop.done;
          front = wrote_end c.loop.done c.args.frame.now (g.L.Link.traffic c.args.link.now) (g.L.Link.traffic c.loop.link) (g.L.Link.traffic c.write_some.new.link) r.1 m.1;
          bound = c.in-Err.ensures.bound;
        },
      );
}

pub returns-in-Err-clause-clock : goal.returns-in-Err-clause-clock
returns-in-Err-clause-clock g c = record {
  observed = λ t.
      let m = c.in-Err.ensures.clock.observed t in
      let r = c.loop.invariant.clock.observed m.0 in
      (r.0, waited_end c.in-Err.end (g.L.Link.traffic c.args.link.now).full_writes (g.L.Link.traffic c.loop.link).full_writes (g.L.Link.traffic c.write_some.new.link).full_writes (g.C.Clock.readings c.args.clock.now) (g.C.Clock.readings c.loop.clock) (g.C.Clock.readings c.write_some.new.clock) r.1 m.1);
}

pub returns-in-Err-clause-blame : goal.returns-in-Err-clause-blame
returns-in-Err-clause-blame g c = blames_on c.in-Err.end (g.L.Link.faults c.args.link.now) (g.L.Link.faults c.loop.link) (g.L.Link.faults c.write_some.new.link) c.loop.invariant.faults c.in-Err.ensures.blame

pub returns-in-Err-clause-again : goal.returns-in-Err-clause-again
returns-in-Err-clause-again g c = record {
  observed = λ t.
      let m = c.in-Err.ensures.again.observed t in
      let r = c.loop.invariant.again.observed m.0 in
      (r.0, again_on c.in-Err.end (g.L.Link.traffic c.args.link.now).full_writes (g.L.Link.traffic c.loop.link).full_writes (g.L.Link.traffic c.write_some.new.link).full_writes r.1 m.1);
}
