use Rattle.dns_forward.proofs.forwarder.Forwarding+ClientTransportToSingleService+BoxClientTransport.add.Goals as goal

pub returns-clause-ok : goal.returns-clause-ok
returns-clause-ok g c = λ us h. c.add_service.ensures.forwards us _ c.new-relay.ensures h
