use Rattle.dns_server.proofs.Hosted.{serving_so}
use Rattle.dns_server.proofs.server_workers.serve_workers.Goals as goal

pub returns-clause-served : goal.returns-clause-served
returns-clause-served g c = c.serve_layered.ensures.served _ (serving_so _ _ _ _ _ c.layered-made.ensures.replies c.layered-made.ensures.hint)
