use Rattle.std.proofs.Common.{◌≡◌}
use Rattle.dns_script.specs.Upstreams.{upstreams_under}
use Rattle.dns_script.proofs.script_upstream.forwarder.Given as goal

abbrev pub invariant-upstreams : goal.invariant-upstreams
invariant-upstreams l =
    (goal.iterator-upstreams).can_next l.upstream-iterator ×
    (goal.iterator-upstreams).is_finite l.upstream-iterator ×
    (l.forwarder ≡ upstreams_under l.yielded)
