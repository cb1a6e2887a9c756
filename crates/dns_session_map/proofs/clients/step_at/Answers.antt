use Rattle.std.specs.Ordering.{nat_cmp}
use Rattle.std.specs.BTreeMap.{get}
use Rattle.dns_session_map.proofs.One.{at_left}
use Rattle.dns_session_map.proofs.clients.step_at.Goals as goal

pub returns-clause-version : goal.returns-clause-version
returns-clause-version g c = λ v h.
    let k = c.args.event.now.client in
    at_left (get nat_cmp c.step_there.new.clients k) (get nat_cmp c.leave.new.clients k) _ v c.leave.ensures.here (c.in_ok-outs.ensures.version v h)
