use Rattle.dns_forward.proofs.Hearing.{hears_again, hears_early_tick, hears_last, hears_late_tick}
use Rattle.dns_forward.proofs.asking.Asking.tick.Goals as goal
use Rattle.dns_forward.proofs.asking.Asking.tick.Goals.{then-self-eq0-via-then-self-eq0, then-self-eq0-via-else-self-eq0+then-not-is_due}

pub returns-then-self-eq0 : goal.returns-then-self-eq0
returns-then-self-eq0 c =
    elim c.then-self-eq0.branch [
      | then-self-eq0-via-then-self-eq0 w ↦ hears_late_tick c.args.self.now c.args.at w.if-self-eq0.true
      | then-self-eq0-via-else-self-eq0+then-not-is_due w ↦ hears_early_tick c.args.self.now c.args.at w.is_due.result w.is_due.ensures w.if-not-is_due.true
    ]

pub returns-then-self-eq0-2 : goal.returns-then-self-eq0-2
returns-then-self-eq0-2 c = hears_last c.args.self.now c.args.at c.is_due.result c.if-self-eq0.false c.is_due.ensures c.if-not-is_due.false c.if-self-eq0-2.true

pub returns : goal.returns
returns c = hears_again c.args.self.now c.args.at c.is_due.result c.if-self-eq0.false c.is_due.ensures c.if-not-is_due.false c.if-self-eq0-2.false
