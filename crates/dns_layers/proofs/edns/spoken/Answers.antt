-- A request that is refused has the layer's own reply.
use Rattle.dns_layers.proofs.EdnsLaws.{own_answers}
use Rattle.dns_layers.proofs.edns.spoken.Goals as goal

pub returns-in-Some-clause-answers : goal.returns-in-Some-clause-answers
returns-in-Some-clause-answers g c = own_answers _ _ (g.S.Service.answer c.args.next.now) c.args.request.now c.in-Some.rcode (cc) c.refused.ensures
