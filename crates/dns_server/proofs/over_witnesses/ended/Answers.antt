use Rattle.dns_server.proofs.over_witnesses.ended.Goals as goal

pub returns-clause-observed : goal.returns-clause-observed
returns-clause-observed g c = (c.run.ensures.0.observed (tt, tt)).1

pub returns-clause-shown : goal.returns-clause-shown
returns-clause-shown g c = (c.run.ensures.1.observed (tt, tt)).1
