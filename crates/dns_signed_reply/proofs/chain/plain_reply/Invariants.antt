use Rattle.dns_signed_reply.proofs.StepLaws.{IsChain}
use Rattle.dns_signed_reply.proofs.chain.plain_reply.Given as goal

abbrev pub invariant-names : goal.invariant-names
invariant-names l = IsChain l.zone l.rtype l.question l.given.items l.left l.seen.items l.name

abbrev pub decreases-names : goal.decreases-names
decreases-names l = l.left
