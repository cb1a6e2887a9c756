use Rattle.dns_message.proofs.TypedWritten.{data_between}
use Rattle.dns_message.proofs.data_laws.typed_data_reads_back.Goals as goal

pub returns : goal.returns
returns c = data_between
