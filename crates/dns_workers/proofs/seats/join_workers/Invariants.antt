use Rattle.std.proofs.Common.{◌≡◌, map, take}
use Rattle.dns_workers.specs.Workers.{JoinedAll, end_of_all, outcome_of}
use Rattle.dns_workers.proofs.OneByOne.{Gave, Turned}
use Rattle.dns_workers.proofs.seats.join_workers.Given as goal

-- the seats of the workers so far are joined, and their ends counted
abbrev pub invariant-loop-worker : goal.invariant-loop-worker
invariant-loop-worker g l = record {
  joined : JoinedAll l.fn.seat.known (map outcome_of (take l.worker-index l.initial.workers)) l.seat.known;
  book : l.seat.book ≡ l.fn.seat.book;
  end : l.end ≡ end_of_all l.fn.end (map outcome_of (take l.worker-index l.initial.workers));
  turned : Turned Gave l.worker-index l.initial.workers l.workers;
}
