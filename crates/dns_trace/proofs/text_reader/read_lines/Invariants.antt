use Rattle.std.proofs.Common.{◌≡◌, ◌+◌, ◌≤◌, length}
use Rattle.std.specs.Str.Lines.{lines}
use Rattle.dns_trace.specs.TextLines.{after_lines}
use Rattle.dns_trace.proofs.text_reader.read_lines.Given as goal

abbrev pub invariant-loop-rest : goal.invariant-loop-rest
invariant-loop-rest g l = record {
  so_far : after_lines g.T.TakeLine.with_line (l.line + 1) l.taker (lines l.rest) ≡ after_lines g.T.TakeLine.with_line 1 l.fn.taker (lines l.text);
  few : l.line + length l.rest ≤ length l.text;
}

abbrev pub decreases-loop-rest : goal.decreases-loop-rest
decreases-loop-rest g l = length l.rest
