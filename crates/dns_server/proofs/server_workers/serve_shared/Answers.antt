use Rattle.dns_server.proofs.Hosted.{caused_as, shared_as}
use Rattle.dns_server.proofs.server_workers.serve_shared.Goals as goal

pub returns-clause-served : goal.returns-clause-served
returns-clause-served g c =
    rw c.by_status.ensures.seat (shared_as _ _ _ _ _ _ _ _ _ _ _ _ _ _ _ _ c.serve.result.1 c.by_status.result.1 _ _ _ _ c.by_status.ensures.status c.serve.ensures.served)

pub returns-clause-cause : goal.returns-clause-cause
returns-clause-cause g c = caused_as _ _ _ _ c.serve.result.1 c.by_status.result.1 _ _ c.by_status.ensures.status c.serve.ensures.cause
