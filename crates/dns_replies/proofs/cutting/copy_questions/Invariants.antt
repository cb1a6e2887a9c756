use Rattle.std.proofs.Common.{◌≡◌, length}
use Rattle.dns_base.specs.Replies.{with_copied}
use Rattle.dns_base.specs.Readers.{readable_items}
use Rattle.dns_replies.proofs.cutting.copy_questions.Given as goal

abbrev pub invariant-walk : goal.invariant-walk
invariant-walk l = with_copied l.target (readable_items l.left) ≡ with_copied l.fn.target (readable_items l.fn.source)

abbrev pub decreases-walk : goal.decreases-walk
decreases-walk l = length l.left
