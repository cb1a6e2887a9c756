use Rattle.dns_session.proofs.client.ClientCore.write.Goals as goal

pub returns-clause-follows : goal.returns-clause-follows
returns-clause-follows g c = λ answers e at_is kind_is. c.write_state.ensures.follows answers c.args.self.now.client e at_is kind_is
