use Rattle.dns_server.proofs.Hosted.{uncaused_as, unshared_as}
use Rattle.dns_server.proofs.server_workers.serve_layered.Goals as goal

pub returns-in-Ok-clause-served : goal.returns-in-Ok-clause-served
returns-in-Ok-clause-served g c = λ answers is.
    let same = rw c.in-Ok.is at is in
    rw same c.serve_made.ensures.served

pub returns-in-Err-clause-served : goal.returns-in-Err-clause-served
returns-in-Err-clause-served g c = λ answers is.
    unshared_as _ _ _ _ _ _ _ _ answers _ _ _ _ _ _ _ c.without_memory.result.1 _ _ _ c.without_memory.ensures.status c.without_memory.ensures.shut

pub returns-in-Err-clause-cause : goal.returns-in-Err-clause-cause
returns-in-Err-clause-cause g c = uncaused_as _ _ _ _ c.without_memory.result.1 _ c.without_memory.ensures.status
