use Rattle.std.proofs.Common.{◌≡◌}
use Rattle.dns_io.specs.Causes.{Observed}
use Rattle.dns_transport.specs.Controls.{LookedInVain, Since}
use Rattle.dns_transport.proofs.control.Control.await_shutdown.Given as goal

abbrev pub invariant-loop : goal.invariant-loop
invariant-loop g l = record {
  book : l.self.book ≡ l.fn.self.book;
  looks : LookedInVain l.fn.self.known l.self.known;
  clock : Observed (g.C.Clock.tells l.clock) (g.C.Clock.tells l.fn.clock) (Since l.first.0 (g.C.Clock.readings l.fn.clock) (g.C.Clock.readings l.clock));
}
