use Rattle.dns_signed_reply.proofs.StepLaws.{answers_alone}
use Rattle.dns_signed_reply.proofs.plain.authoritative.Goals as goal

pub returns : goal.returns
returns c = answers_alone c.args.records.items c.new-authority.result.items c.new-additional.result.items c.new-authority.ensures.items c.new-additional.ensures.items
