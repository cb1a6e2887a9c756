use Rattle.std.proofs.Common.{◌≡◌, ◌≤◌, length}
use Rattle.dns_message.specs.Standing.{standing_at}
use Rattle.dns_message.specs.Sections.{ends_at}
use Rattle.dns_message.proofs.record.records_end.Given as goal

abbrev pub invariant-items : goal.invariant-items
invariant-items l = record {
  within : l.at ≤ length l.message;
  same : ends_at (standing_at l.message) l.left l.at ≡ ends_at (standing_at l.message) l.count l.start;
}

abbrev pub decreases-items : goal.decreases-items
decreases-items l = l.left
