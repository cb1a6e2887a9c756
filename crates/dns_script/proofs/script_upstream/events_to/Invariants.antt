use Rattle.std.proofs.Common.{◌≡◌}
use Rattle.dns_script.specs.Upstreams.{events_to}
use Rattle.dns_script.proofs.script_upstream.events_to.Given as goal

abbrev pub invariant-loop-i : goal.invariant-loop-i
invariant-loop-i l = l.events.items ≡ events_to l.id l.message l.words l.i
