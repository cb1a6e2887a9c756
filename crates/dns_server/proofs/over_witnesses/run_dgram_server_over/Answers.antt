use Rattle.dns_server.proofs.WitnessedServers.{server_kept}
use Rattle.dns_server.proofs.over_witnesses.run_dgram_server_over.Goals as goal

pub returns-clause-kept : goal.returns-clause-kept
returns-clause-kept g c = server_kept _ c.run.result _ _ c.run.ensures.observed
