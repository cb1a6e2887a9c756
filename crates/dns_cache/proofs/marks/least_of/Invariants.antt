use Rattle.std.proofs.Common.{◌≡◌, drop}
use Rattle.dns_cache.specs.Marks.{marked_ttls}
use Rattle.dns_cache.specs.Ttls.{smallest}
use Rattle.dns_cache.proofs.MarkLaws.{smallest_with}
use Rattle.dns_cache.proofs.marks.least_of.Given as goal

abbrev pub invariant-marks : goal.invariant-marks
invariant-marks l = smallest_with l.least (marked_ttls (drop l.mark-index l.marks)) ≡ smallest (marked_ttls l.marks)
