use Rattle.std.proofs.Common.{◌≡◌, []}
use Rattle.dns_io.specs.Causes.{Observed}
use Rattle.dns_dgram_driver.specs.Steps.{SentSo}
use Rattle.dns_dgram_driver.proofs.sends.send.Given as goal

abbrev pub invariant-loop : goal.invariant-loop
invariant-loop g l = record {
  receives : g.D.AsyncDgramSock.failed_receives l.sock ≡ g.D.AsyncDgramSock.failed_receives l.fn.sock;
  sends : g.D.AsyncDgramSock.failed_sends l.sock ≡ g.D.AsyncDgramSock.failed_sends l.fn.sock;
  observed : Observed (g.D.AsyncDgramSock.tells l.sock × g.C.Clock.tells l.clock) (g.D.AsyncDgramSock.tells l.fn.sock × g.C.Clock.tells l.fn.clock) (SentSo [] (g.D.AsyncDgramSock.sock_traffic l.fn.sock) (g.D.AsyncDgramSock.sock_traffic l.sock) (g.C.Clock.readings l.fn.clock) (g.C.Clock.readings l.clock));
}
