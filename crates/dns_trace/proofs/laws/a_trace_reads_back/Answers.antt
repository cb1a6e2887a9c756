use Rattle.dns_trace.proofs.TraceBack.{reads_back}
use Rattle.dns_trace.proofs.laws.a_trace_reads_back.Goals as goal

pub returns : goal.returns
returns c = reads_back
