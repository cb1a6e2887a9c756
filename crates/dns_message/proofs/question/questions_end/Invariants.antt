use Rattle.std.proofs.Common.{◌≡◌, ◌≤◌, length}
use Rattle.dns_message.specs.Read.{question_at}
use Rattle.dns_message.specs.Sections.{ends_at}
use Rattle.dns_message.proofs.question.questions_end.Given as goal

abbrev pub invariant-items : goal.invariant-items
invariant-items l = record {
  within : l.at ≤ length l.message;
  same : ends_at (question_at l.message) l.left l.at ≡ ends_at (question_at l.message) l.count l.start;
}

abbrev pub decreases-items : goal.decreases-items
decreases-items l = l.left
