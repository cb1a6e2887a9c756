use Rattle.dns_server.proofs.Noted.{noted_more, still_trace}
use Rattle.dns_server.specs.Recorded.{is_said}
use Rattle.dns_server.proofs.trace_recorder.TraceRecorderRecorder.note.Goals as goal

pub invariant_of-self : goal.invariant_of-self
invariant_of-self c =
    let e = c.args.event.now in
    let before = c.args.self.now in
    record { is_trace = rw c.still_said-said.ensures (still_trace before.said (is_said e) before.writer c.note.new.self e before.is_trace c.in-Ok.ensures.noted c.event.ensures) }

pub invariant_of-self-in-Err-1 : goal.invariant_of-self-in-Err-1
invariant_of-self-in-Err-1 c = record { is_trace = rw c.in-Err.ensures.same c.args.self.now.is_trace }

pub returns-in-Ok-clause-moves : goal.returns-in-Ok-clause-moves
returns-in-Ok-clause-moves c =
    let e = c.args.event.now in
    let before = c.args.self.now in
    record {
      observed = λ observed. noted_more c.a_trace_reads_back.ensures before.said (is_said e) before.writer c.note.new.self e before.is_trace c.in-Ok.ensures.noted c.event.ensures (rw c.still_said-said.ensures at observed);
    }
