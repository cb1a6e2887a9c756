use Rattle.std.proofs.Common.{arith}
use Rattle.dns_trace.proofs.Cutting.{first_line_at, only_line}
use Rattle.dns_trace.proofs.lines.split_line.Goals as goal

pub returns-then-end-text-clause-line : goal.returns-then-end-text-clause-line
returns-then-end-text-clause-line c =
    let e = c.if-end-text.true in
    rw e (only_line c.args.text.now (rw e at c.line_end-end.ensures.before) c.requires)

pub returns-clause-line : goal.returns-clause-line
returns-clause-line c =
    first_line_at c.args.text.now c.without_cr.result.now c.line_end-end.result c.line_end-end.ensures.before (omega arith) (c.line_end-end.ensures.found (omega arith)) c.without_cr.ensures
