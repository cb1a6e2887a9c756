use Rattle.std.proofs.Common.{◌∙◌}
use Rattle.std.proofs.lemmas.Result.{IfOk-weaker}
use Rattle.dns_session.proofs.states.carry_out.Goals as goal

pub returns-clause-outs : goal.returns-clause-outs
returns-clause-outs g c = IfOk-weaker c.listed.result _ _ (λ outs e. e ∙ c.follow-sent.ensures.outs c.args.client) c.listed.ensures
