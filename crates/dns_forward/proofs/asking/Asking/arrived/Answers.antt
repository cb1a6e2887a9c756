use Rattle.std.proofs.Common.{ap, ◌∙◌}
use Rattle.dns_forward.specs.Matching.{with_id}
use Rattle.dns_forward.proofs.Hearing.{hears_answer, hears_late_arrival, hears_stray}
use Rattle.dns_forward.proofs.asking.Asking.arrived.Goals as goal
use Rattle.dns_forward.proofs.asking.Asking.arrived.Goals.{then-self-eq0-via-then-self-eq0, then-self-eq0-via-else-self-eq0+then-not-is_answer}

pub returns-then-self-eq0-clause-ok : goal.returns-then-self-eq0-clause-ok
returns-then-self-eq0-clause-ok c =
    elim c.then-self-eq0.branch [
      | then-self-eq0-via-then-self-eq0 w ↦ hears_late_arrival c.args.self.now c.args.at c.args.octets.now w.if-self-eq0.true
      | then-self-eq0-via-else-self-eq0+then-not-is_answer w ↦ hears_stray c.args.self.now c.args.at c.args.octets.now w.is_answer.result w.is_answer.ensures w.if-not-is_answer.true
    ]

pub returns-clause-ok : goal.returns-clause-ok
returns-clause-ok c =
    hears_answer c.args.self.now c.args.at c.args.octets.now c.with_id.result c.is_answer.result c.if-self-eq0.false c.is_answer.ensures c.if-not-is_answer.false
    (c.with_id.ensures ∙ ap (with_id c.args.self.now.asker) c.in_ok-octets.ensures.items)
