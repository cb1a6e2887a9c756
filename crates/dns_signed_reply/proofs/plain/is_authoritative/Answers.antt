use Rattle.dns_signed_reply.proofs.StepLaws.{aa_none, aa_some}
use Rattle.dns_signed_reply.proofs.plain.is_authoritative.Goals as goal

pub returns-then-is_empty : goal.returns-then-is_empty
returns-then-is_empty c = aa_none c.args.given.now c.is_empty.result c.args.aa c.is_empty.ensures c.if-is_empty.true

pub returns : goal.returns
returns c = aa_some c.args.given.now c.is_empty.result c.args.aa c.is_empty.ensures c.if-is_empty.false
