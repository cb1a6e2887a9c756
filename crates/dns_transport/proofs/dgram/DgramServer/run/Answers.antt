use Rattle.dns_transport.proofs.dgram.DgramServer.run.Goals as goal

pub returns-clause-observed : goal.returns-clause-observed
returns-clause-observed g c = rw (← c.self.view_is, ← c.deref-2.ensures) c.serve_from.ensures.observed
