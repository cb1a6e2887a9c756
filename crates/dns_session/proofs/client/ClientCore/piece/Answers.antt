use Rattle.dns_session.proofs.client.ClientCore.piece.Goals as goal

pub returns-in-Ok-clause-follows : goal.returns-in-Ok-clause-follows
returns-in-Ok-clause-follows g c = c.in-Ok.ensures.follows c.args.self.now.client
