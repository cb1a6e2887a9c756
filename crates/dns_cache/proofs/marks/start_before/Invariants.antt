use Rattle.std.proofs.Common.{◌≡◌, ◌-◌, drop}
use Rattle.dns_cache.specs.Marks.{marked_size}
use Rattle.dns_cache.proofs.marks.start_before.Given as goal

abbrev pub invariant-marks : goal.invariant-marks
invariant-marks l = l.start - marked_size (drop l.mark-index l.marks) ≡ l.end - marked_size l.marks
