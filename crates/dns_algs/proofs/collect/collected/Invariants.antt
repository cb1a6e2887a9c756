use Rattle.std.proofs.Common.{◌≡◌, ◌≤◌, length}
use Rattle.dns_algs.proofs.collect.collected.Given as goal

abbrev pub invariant-loop-algorithm : goal.invariant-loop-algorithm
invariant-loop-algorithm g l = record {
  same : l.octets.items ≡ l.yielded;
  short : length l.octets.items ≤ 65535;
}
