use Rattle.std.proofs.Common.{ap, ◌∙◌}
use Rattle.dns_base.specs.Sections.{questions_of}
use Rattle.dns_base.specs.Replies.{with_copied}
use Rattle.dns_base.specs.Readers.{readable_items}
use Rattle.dns_base.proofs.Copied.{readable_all}
use Rattle.dns_base.proofs.draft.Draft.copy_each.Goals as goal

pub questions-init : goal.questions-init
questions-init c = record {
  same = ap (with_copied c.args.self.now) (ap readable_items c.question-questions.ensures ∙ readable_all (questions_of c.args.message.now));
  empty = c.requires;
}
