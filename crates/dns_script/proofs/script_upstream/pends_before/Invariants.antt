use Rattle.dns_script.specs.Upstreams.{PendFirst}
use Rattle.dns_script.proofs.script_upstream.pends_before.Given as goal

abbrev pub invariant-loop-k : goal.invariant-loop-k
invariant-loop-k l = PendFirst l.words l.k
