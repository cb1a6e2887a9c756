use Rattle.dns_host.proofs.ServedHost.{host_served}
use Rattle.dns_host.proofs.host.Host.serve.Goals as goal

pub returns-clause-served : goal.returns-clause-served
returns-clause-served g c =
    host_served _ _ _ _ _ _ _ _ _ _ _ _ _ _ _ c.close_both.result.1 c.args.count _ _ _ _ c.close_both.ensures.closed.shut.look _ _ _ _ _ _ _ _ _ _
    c.split-halves.ensures.first c.split-halves.ensures.second c.both_beside-ends.ensures.accepts c.both_beside-ends.ensures.dgrams
    c.join_all.ensures.given c.join_all.ensures.same c.close_both.ensures.closed.join c.close_both.ensures.closed.shut.called c.close_both.ensures.end
