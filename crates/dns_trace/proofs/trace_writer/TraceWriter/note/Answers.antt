use Rattle.std.proofs.Common.{rules}
use Rattle.dns_trace.proofs.Written.{noted}
use Rattle.dns_trace.proofs.trace_writer.TraceWriter.note.Goals as goal

pub returns-clause-noted : goal.returns-clause-noted
returns-clause-noted c = λ s es h. rw (← noted s es c.args.event.now, ← h) (search rules)
