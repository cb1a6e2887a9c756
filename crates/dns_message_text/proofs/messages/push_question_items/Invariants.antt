use Rattle.std.proofs.Common.{◌≡◌, ◌++◌, length}
use Rattle.std.specs.List.{flat_map}
use Rattle.dns_message_text.specs.MessageText.{question_item}
use Rattle.dns_message_text.proofs.messages.push_question_items.Given as goal

abbrev pub invariant-questions : goal.invariant-questions
invariant-questions l = l.target.items ++ flat_map question_item l.questions ≡ l.fn.target.items ++ flat_map question_item l.fn.questions

abbrev pub decreases-questions : goal.decreases-questions
decreases-questions l = length l.questions
