use Rattle.dns_peer_keys.proofs.peer_keys.PeerKeys.add.Goals as goal

pub returns-in-Err-clause-fault : goal.returns-in-Err-clause-fault
returns-in-Err-clause-fault c = c.in-Err.ensures.fault c.args.self.now
