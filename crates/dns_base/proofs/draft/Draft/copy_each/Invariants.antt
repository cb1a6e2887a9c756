use Rattle.std.proofs.Common.{◌≡◌, length}
use Rattle.dns_base.specs.Built.{NoRecords}
use Rattle.dns_base.specs.Sections.{questions_of}
use Rattle.dns_base.specs.Replies.{with_copied}
use Rattle.dns_base.specs.Readers.{readable_items}
use Rattle.dns_base.proofs.draft.Draft.copy_each.Given as goal

abbrev pub invariant-questions : goal.invariant-questions
invariant-questions l = record {
  same : with_copied l.self (readable_items l.questions) ≡ with_copied l.fn.self (questions_of l.message).0;
  empty : NoRecords l.self.message;
}

abbrev pub decreases-questions : goal.decreases-questions
decreases-questions l = length l.questions
