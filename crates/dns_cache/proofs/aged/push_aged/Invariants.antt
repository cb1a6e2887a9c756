use Rattle.std.proofs.Common.{◌≡◌, ◌++◌, drop}
use Rattle.dns_cache.specs.Marks.{MarksFit, aged_octets}
use Rattle.dns_cache.proofs.aged.push_aged.Given as goal

abbrev pub invariant-marks : goal.invariant-marks
invariant-marks l = record {
  so_far : l.target.items ++ aged_octets l.age (drop l.mark-index l.marks) l.left ≡ l.fn.target.items ++ aged_octets l.age l.marks l.records;
  fit : MarksFit (drop l.mark-index l.marks) l.left;
}
