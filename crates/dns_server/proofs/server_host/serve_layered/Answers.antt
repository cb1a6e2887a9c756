use Rattle.dns_server.proofs.Hosted.{served_as, unserved}
use Rattle.dns_server.proofs.server_host.serve_layered.Goals as goal

pub returns-in-Ok-clause-served : goal.returns-in-Ok-clause-served
returns-in-Ok-clause-served g c = λ answers is.
    let same = rw c.in-Ok.is at is in
    rw (c.by_status.ensures.seat, same) (served_as _ _ _ _ c.host_service.result.1 c.by_status.result.1 _ _ _ _ _ c.by_status.ensures.status c.host_service.ensures.served)

pub returns-in-Err-clause-served : goal.returns-in-Err-clause-served
returns-in-Err-clause-served g c = λ answers is.
    unserved _ _ _ answers c.without_memory.result.1 _ _ _ _ c.without_memory.ensures.status c.without_memory.ensures.shut
