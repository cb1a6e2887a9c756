use Rattle.std.proofs.Common.{◌∙◌}
use Rattle.dns_fronts.proofs.LoneQuestions.{lone_wire}
use Rattle.dns_fronts.proofs.sendable.lone_message.Goals as goal

pub returns-clause-value : goal.returns-clause-value
returns-clause-value c = lone_wire c.args.header c.args.question.now c.of.result (c.of.ensures ∙ c.in_ok-octets.ensures.octets)
