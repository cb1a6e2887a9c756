use Rattle.std.proofs.Common.{[], ◌∷◌, ◌++◌, codes, decimal}
use Rattle.dns_trace.specs.Trace.{budget_words, dgram_words, stream_words}
use Rattle.dns_trace.proofs.Written.{line_ended}
use Rattle.dns_trace.proofs.trace_lines.reconfigure_line.Goals as goal

pub returns-clause-ok : goal.returns-clause-ok
returns-clause-ok c =
    let e = line_ended c.args.text.now (codes "reconfigure") (decimal c.args.event.now.at ∷ decimal c.args.event.now.secs ∷ [])
    (dgram_words c.args.dgram.now ++ (stream_words c.args.stream.now ++ budget_words c.args.stream.now.connection_config)) in
    rw (c.in_ok-config_words.ensures.ok, c.in_ok-begin_wide.ensures.ok, e) at c.end_line.ensures.ok
