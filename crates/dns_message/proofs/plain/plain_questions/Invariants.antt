use Rattle.std.proofs.Common.{◌-◌, ◌≤◌, length}
use Rattle.dns_message.specs.Sections.{field}
use Rattle.dns_message.proofs.Plains.{StandUpTo}
use Rattle.dns_message.proofs.plain.plain_questions.Given as goal

abbrev pub invariant-items : goal.invariant-items
invariant-items l = record {
  within : l.at ≤ length l.octets;
  few : l.left ≤ field 4 l.octets;
  stand : StandUpTo l.octets (field 4 l.octets - l.left) l.at;
}

abbrev pub decreases-items : goal.decreases-items
decreases-items l = l.left
