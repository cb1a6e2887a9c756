use Rattle.dns_service.proofs.CopyLaws.{authority_given}
use Rattle.dns_service.proofs.copied.authority_in.Goals as goal

pub returns-clause-value : goal.returns-clause-value
returns-clause-value c = authority_given c.args.message.now c.as_slice-octets.result.now c.number_at.result c.args.at c.records_from.result c.as_slice-octets.ensures.value c.number_at.ensures c.requires.here c.records_from.ensures.value
