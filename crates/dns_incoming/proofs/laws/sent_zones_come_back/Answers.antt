use Rattle.dns_incoming.proofs.BackLaws.{sent_back}
use Rattle.dns_incoming.proofs.laws.sent_zones_come_back.Goals as goal

pub returns : goal.returns
returns c = sent_back c.messages_read_back.ensures.same c.typed_records_read_back.ensures.answers
