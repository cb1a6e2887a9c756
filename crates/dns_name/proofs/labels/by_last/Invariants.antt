use Rattle.std.proofs.Common.{◌≡◌, length}
use Rattle.std.specs.Ordering.{ordering_then}
use Rattle.dns_name.specs.Canonical.{name_cmp}
use Rattle.dns_name.proofs.labels.by_last.Given as goal

abbrev pub invariant-labels : goal.invariant-labels
invariant-labels l = record {
  as_many : length l.labels ≡ length l.others;
  rest : ordering_then (name_cmp l.labels l.others) l.found ≡ name_cmp l.fn.labels l.fn.others;
}

abbrev pub decreases-labels : goal.decreases-labels
decreases-labels l = length l.labels
