use Rattle.dns_message.proofs.Written.{read_back, all_readable}
use Rattle.dns_message.proofs.laws.messages_read_back.Goals as goal

pub returns-clause-same : goal.returns-clause-same
returns-clause-same c = read_back

pub returns-clause-whole : goal.returns-clause-whole
returns-clause-whole c = all_readable
