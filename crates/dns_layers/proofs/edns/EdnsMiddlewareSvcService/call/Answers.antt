-- An enabled layer answers by the rule, a disabled one as the service inside.
use Rattle.dns_layers.proofs.edns.EdnsMiddlewareSvcService.call.Goals as goal

pub returns-then-self-clause-answers : goal.returns-then-self-clause-answers
returns-then-self-clause-answers g c = rw c.if-self.true c.spoken.ensures.answers

pub returns-else-self-clause-answers : goal.returns-else-self-clause-answers
returns-else-self-clause-answers g c = rw c.if-self.false c.pass_whole.ensures.answers
