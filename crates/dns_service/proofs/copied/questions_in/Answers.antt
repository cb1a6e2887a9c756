use Rattle.dns_service.proofs.CopyLaws.{questions_given}
use Rattle.dns_service.proofs.copied.questions_in.Goals as goal

pub returns-clause-value : goal.returns-clause-value
returns-clause-value c = questions_given c.args.message.now c.as_slice-octets.result.now c.number_at.result c.questions_from.result c.as_slice-octets.ensures.value c.number_at.ensures c.questions_from.ensures.value
