use Rattle.dns_service.proofs.CopyLaws.{QuestionsCopied}
use Rattle.dns_service.proofs.copied.questions_from.Given as goal

abbrev pub invariant-each : goal.invariant-each
invariant-each l = QuestionsCopied l.message l.count l.start l.questions.items l.left l.at

abbrev pub decreases-each : goal.decreases-each
decreases-each l = l.left
