use Rattle.std.proofs.Common.{◌≡◌}
use Rattle.dns_workers.specs.Workers.{left_after}
use Rattle.dns_workers.proofs.OneByOne.{Took, Turned}
use Rattle.dns_workers.proofs.seats.seat_workers.Given as goal

-- the workers so far have their seats
abbrev pub invariant-loop-worker : goal.invariant-loop-worker
invariant-loop-worker g l = record {
  left : l.seat.known ≡ left_after l.worker-index l.fn.seat.known;
  book : l.seat.book ≡ l.fn.seat.book;
  turned : Turned (Took l.fn.seat.book l.fn.seat.known) l.worker-index l.initial.workers l.workers;
}
