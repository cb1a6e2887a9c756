use Rattle.std.proofs.Common.{length}
use Rattle.dns_cache.proofs.MarkLaws.{Goes}
use Rattle.dns_cache.proofs.marks.mark_section.Given as goal

abbrev pub invariant-each : goal.invariant-each
invariant-each l = Goes l.all l.fn.items l.left l.fn.marks.items l.marks.items

abbrev pub decreases-each : goal.decreases-each
decreases-each l = length l.left
