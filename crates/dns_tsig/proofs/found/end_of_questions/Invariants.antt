use Rattle.std.proofs.Common.{◌≡◌, ◌≤◌, length}
use Rattle.dns_message.specs.Read.{question_at}
use Rattle.dns_message.specs.Sections.{ends_at, field}
use Rattle.dns_tsig.proofs.found.end_of_questions.Given as goal

abbrev pub invariant-questions : goal.invariant-questions
invariant-questions l = record {
  within : l.at ≤ length l.message;
  same : ends_at (question_at l.message) l.left l.at ≡ ends_at (question_at l.message) (field 4 l.message) 12;
}

abbrev pub decreases-questions : goal.decreases-questions
decreases-questions l = l.left
