use Rattle.std.proofs.Common.{ℕ, Some, ap, sym, ◌∙◌}
use Rattle.dns_forward.proofs.Heard.{deadline_left, no_deadline}
use Rattle.dns_forward.proofs.asking.Asking.deadline.Goals as goal

pub returns-then-self-eq0 : goal.returns-then-self-eq0
returns-then-self-eq0 c = λ q es h. sym (no_deadline q es c.args.self.now.left c.args.self.now.last h.left c.if-self-eq0.true)

pub returns : goal.returns
returns c = λ q es h.
    ap (λ (n : ℕ). Some n) c.first_due.ensures
    ∙ sym (deadline_left q es c.args.self.now.left c.args.self.now.last c.args.self.now.timeout h.left c.if-self-eq0.false h.timeout)
