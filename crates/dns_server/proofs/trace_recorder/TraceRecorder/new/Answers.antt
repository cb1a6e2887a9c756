use Rattle.std.proofs.Common.{ap, ◌∙◌}
use Rattle.dns_server.proofs.Noted.{none_noted}
use Rattle.dns_server.specs.Recorded.{recorded}
use Rattle.dns_server.proofs.trace_recorder.TraceRecorder.new.Goals as goal

pub returns-in-Ok-clause-noted : goal.returns-in-Ok-clause-noted
returns-in-Ok-clause-noted c = ap recorded c.in-Ok.ensures ∙ none_noted c.a_trace_reads_back.ensures c.args.settings.now c.settings.ensures
