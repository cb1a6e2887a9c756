use Rattle.dns_service.proofs.CopyLaws.{RecordsCopied}
use Rattle.dns_service.proofs.copied.records_from.Given as goal

abbrev pub invariant-each : goal.invariant-each
invariant-each l = RecordsCopied l.message l.count l.start l.records.items l.left l.at

abbrev pub decreases-each : goal.decreases-each
decreases-each l = l.left
