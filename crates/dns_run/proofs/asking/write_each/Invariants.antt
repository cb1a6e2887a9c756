use Rattle.std.proofs.Common.{◌≡◌}
use Rattle.dns_run.proofs.Asked.{Asked}
use Rattle.dns_run.specs.Asking.{asked_text}
use Rattle.dns_run.proofs.asking.write_each.Given as goal

-- the lines of the questions so far are written or kept back
abbrev pub invariant-asks : goal.invariant-asks
invariant-asks g l = record {
  asked : Asked (asked_text l.fn.rules l.fn.asks.items) l.rules l.ask-iterator.rest.items l.text (g.W.Sink.taken l.fn.sink) (g.W.Sink.taken l.sink) (g.W.Sink.tells l.sink) (g.W.Sink.tells l.fn.sink);
  quiet : g.W.Sink.faults l.sink ≡ g.W.Sink.faults l.fn.sink;
}
