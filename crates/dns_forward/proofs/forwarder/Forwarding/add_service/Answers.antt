use Rattle.dns_forward.proofs.ForwardLaws.{forwards_added}
use Rattle.dns_forward.proofs.forwarder.Forwarding.add_service.Goals as goal

pub returns-clause-forwards : goal.returns-clause-forwards
returns-clause-forwards g c = λ us u e h.
    forwards_added g.S.SingleService.answer us c.args.self.now c.self.inside.router c.add.new.self c.args.name u c.args.service c.add.result e (cc) c.add.ensures.ok h
