use Rattle.dns_server.proofs.Noted.{reads_whole}
use Rattle.dns_server.proofs.trace_recorder.TraceRecorder.finish.Goals as goal

pub returns-clause-back : goal.returns-clause-back
returns-clause-back c = λ said. rw c.finish.ensures (reads_whole c.a_trace_reads_back.ensures c.args.self.said c.args.self.writer c.args.self.is_trace said)
