use Rattle.std.proofs.Common.{◌≡◌, take}
use Rattle.dns_io.specs.Causes.{Observed}
use Rattle.dns_script.specs.Line.{lines_of}
use Rattle.dns_flood.specs.Writes.{Pending}
use Rattle.dns_flood.proofs.writing.write_lines.Given as goal

abbrev pub invariant-loop-output : goal.invariant-loop-output
invariant-loop-output g l = record {
  observed : Observed (g.W.Sink.tells l.sink) (g.W.Sink.tells l.fn.sink) (Pending l.text (lines_of (take l.output-index l.outputs)) (g.W.Sink.taken l.fn.sink) (g.W.Sink.taken l.sink));
  quiet : g.W.Sink.faults l.sink ≡ g.W.Sink.faults l.fn.sink;
}
