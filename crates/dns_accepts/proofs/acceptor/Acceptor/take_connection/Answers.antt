use Rattle.dns_accepts.proofs.AdmissionOutcomes.{asked_started}
use Rattle.dns_accepts.proofs.acceptor.Acceptor.take_connection.Goals as goal

pub returns-in-Admitted-clause-asked : goal.returns-in-Admitted-clause-asked
returns-in-Admitted-clause-asked g c = asked_started _ c.serve_admitted.ensures.started.0 _ _ _ _ _ _ _ _ _
    c.in-Admitted.ensures.called c.serve_admitted.ensures.half c.serve_admitted.ensures.started.2 c.serve_admitted.ensures.started.1
