use Rattle.dns_incoming.proofs.MessageLaws.{message_taken}
use Rattle.dns_incoming.proofs.laws.messages_are_taken.Goals as goal

pub returns : goal.returns
returns c = λ s m rs a. message_taken s m rs a (c.messages_read_back.ensures.same m a.lawful) (c.typed_records_read_back.ensures.answers m a.lawful)
