use Rattle.std.proofs.Common.{◌≡◌, length}
use Rattle.dns_service.specs.OptItems.{items_among}
use Rattle.dns_service.proofs.asked.behind_record.Given as goal

abbrev pub invariant-walk : goal.invariant-walk
invariant-walk l = items_among l.left ≡ items_among l.fn.records

abbrev pub decreases-walk : goal.decreases-walk
decreases-walk l = length l.left
