use Rattle.std.proofs.Common.{◌≡◌, drop}
use Rattle.dns_base.specs.Replies.{with_questions}
use Rattle.dns_base.specs.Builds.{KeepsLimit}
use Rattle.dns_base.proofs.builder.assembled.QuestionBuilder.push_questions.Given as goal

abbrev pub invariant-each : goal.invariant-each
invariant-each l = record {
  same : with_questions l.self (drop l.item-index l.questions) ≡ with_questions l.fn.self l.questions;
  short : KeepsLimit l.self;
}
