use Rattle.std.proofs.Common.{◌≡◌, ◌++◌, ◌≤◌, ◌-◌, length}
use Rattle.dns_io.specs.Causes.{Observed}
use Rattle.dns_io.proofs.source.read_all.Given as goal

abbrev pub invariant-pieces : goal.invariant-pieces
invariant-pieces g l = record {
  observed : Observed (g.S.Source.tells l.source) (g.S.Source.tells l.fn.source) (g.S.Source.left l.fn.source ≡ l.out.items ++ g.S.Source.left l.source);
  quiet : g.S.Source.faults l.source ≡ g.S.Source.faults l.fn.source;
  few : length l.out.items ≤ 67108865;
}

abbrev pub decreases-pieces : goal.decreases-pieces
decreases-pieces g l = 67108865 - length l.out.items
