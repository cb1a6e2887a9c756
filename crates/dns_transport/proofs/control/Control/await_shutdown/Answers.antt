use Rattle.std.proofs.Common.{◌∙◌}
use Rattle.dns_book.specs.Seats.{state_met}
use Rattle.dns_transport.proofs.Awaiting.{awaited, vain_more, read_on}
use Rattle.dns_transport.proofs.control.Control.await_shutdown.Goals as goal

pub returns-in-Some-look_again-clause-looks : goal.returns-in-Some-look_again-clause-looks
returns-in-Some-look_again-clause-looks g c =
    awaited c.in-Some-look_again.down c.args.self.now.known c.loop.self.known c.look_again.new.self.known
    c.loop.invariant.looks c.look_again.ensures.called c.in-Some-look_again.ensures.exactly

pub loop-preserved : goal.loop-preserved
loop-preserved g c = record {
  book = c.look_again.ensures.book ∙ c.loop.invariant.book;
  looks = vain_more c.args.self.now.known c.loop.self.known c.look_again.new.self.known (state_met c.look_again.new.self.known)
      c.loop.invariant.looks c.look_again.ensures.called c.in_default.ensures.exactly;
  clock = read_on (g.C.Clock.tells c.look_again.new.clock) (g.C.Clock.tells c.loop.clock) (g.C.Clock.tells c.args.clock.now) c.now-first.result.0 c.args.millis
      (g.C.Clock.readings c.args.clock.now) (g.C.Clock.readings c.loop.clock) (g.C.Clock.readings c.look_again.new.clock) c.in_default.ensures.clock c.loop.invariant.clock;
}
