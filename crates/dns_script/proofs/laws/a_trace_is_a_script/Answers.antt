use Rattle.dns_script.proofs.TraceScripts.{plain_trace, service_trace}
use Rattle.dns_script.proofs.laws.a_trace_is_a_script.Goals as goal

pub returns : goal.returns
returns c = record { plain = plain_trace; service = service_trace }
