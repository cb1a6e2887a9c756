use Rattle.dns_hashed_reply.proofs.SectionLaws.{failure_is}
use Rattle.dns_hashed_reply.proofs.reply.failed.Goals as goal

pub returns : goal.returns
returns c = failure_is c.new-answers.result.items c.new-authority.result.items c.new-additional.result.items c.new-answers.ensures.items c.new-authority.ensures.items c.new-additional.ensures.items
