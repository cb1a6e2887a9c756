use Rattle.std.proofs.Common.{◌≡◌, ◌++◌, ◌≤◌, ◌-◌, length, take}
use Rattle.dns_io.specs.Causes.{Observed}
use Rattle.dns_io.proofs.sink.write_all.Given as goal

abbrev pub invariant-loop-done : goal.invariant-loop-done
invariant-loop-done g l = record {
  observed : Observed (g.W.Sink.tells l.sink) (g.W.Sink.tells l.fn.sink) (g.W.Sink.taken l.sink ≡ g.W.Sink.taken l.fn.sink ++ take l.done l.piece);
  quiet : g.W.Sink.faults l.sink ≡ g.W.Sink.faults l.fn.sink;
  within : l.done ≤ length l.piece;
}

abbrev pub decreases-loop-done : goal.decreases-loop-done
decreases-loop-done g l = length l.piece - l.done
