use Rattle.std.proofs.Common.{◌≡◌, ◌≤◌}
use Rattle.dns_accepts.specs.Arrivals.{TookSoFar, RoseWhere}
use Rattle.dns_accepts.proofs.acceptor.Acceptor.accept_all.Given as goal

abbrev pub invariant-loop : goal.invariant-loop
invariant-loop g l = record {
  book : l.seat.book ≡ l.fn.seat.book;
  observed : TookSoFar l.count l.tally.taken (g.A.AsyncAccept.tells l.accept × g.P.Spawner.tells l.spawner) (g.A.AsyncAccept.tells l.fn.accept × g.P.Spawner.tells l.fn.spawner)
      l.fn.seat.known l.seat.known (g.A.AsyncAccept.accept_traffic l.fn.accept) (g.A.AsyncAccept.accept_traffic l.accept) (g.P.Spawner.given l.fn.spawner) (g.P.Spawner.given l.spawner)
      (g.A.AsyncAccept.faults l.fn.accept) (g.A.AsyncAccept.faults l.accept);
  rose : RoseWhere l.tally.faulted (g.A.AsyncAccept.faults l.fn.accept) (g.A.AsyncAccept.faults l.accept) (g.P.Spawner.faults l.fn.spawner) (g.P.Spawner.faults l.spawner);
  accepts_later : g.A.AsyncAccept.faults l.fn.accept ≤ g.A.AsyncAccept.faults l.accept;
  starts_later : g.P.Spawner.faults l.fn.spawner ≤ g.P.Spawner.faults l.spawner;
}
