-- The inner answers are rewritten by the rule for the request as it came.
use Rattle.dns_layers.proofs.EdnsLaws.{passed_on}
use Rattle.dns_layers.proofs.edns.pass.Goals as goal

pub returns-clause-answers : goal.returns-clause-answers
returns-clause-answers g c =
    passed_on _ _ (g.S.Service.answer c.args.next.now) c.args.request.now c.args.asked.now c.new-rule.result c.client_size.result c.requires.asked (cc) (cc) c.call_mapped.ensures.answers
