use Rattle.dns_server.proofs.Hosted.{uncaused_as, unshared_as}
use Rattle.dns_server.proofs.server_workers.serve_made.Goals as goal

pub returns-in-Ok-clause-served : goal.returns-in-Ok-clause-served
returns-in-Ok-clause-served g c = rw c.in-Ok.ensures.ok at c.serve_shared.ensures.served

pub returns-clause-served : goal.returns-clause-served
returns-clause-served g c =
    unshared_as _ _ _ _ _ _ _ _ _ _ _ _ _ _ _ _ c.without_memory.result.1 _ _ _ c.without_memory.ensures.status c.without_memory.ensures.shut

pub returns-clause-cause : goal.returns-clause-cause
returns-clause-cause g c = uncaused_as _ _ _ _ c.without_memory.result.1 _ c.without_memory.ensures.status
