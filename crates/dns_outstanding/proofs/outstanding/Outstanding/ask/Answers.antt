-- A question that isn't asked is asked once after the others.
use Rattle.std.proofs.Common.{◌≡◌, ◌∙◌, false, List, ap, subst, sym}
use Rattle.dns_outstanding.specs.declared.outstanding.AskedQuestion.{AskedQuestion}
use Rattle.dns_outstanding.specs.Outstanding.{AreAskedOnce, is_asked}
use Rattle.dns_outstanding.proofs.Counts.{asked-more}
use Rattle.dns_outstanding.proofs.outstanding.Outstanding.ask.Goals as goal

pub invariant_of-self : goal.invariant_of-self
invariant_of-self c = subst AreAskedOnce (sym c.in_err-push.ensures.items) c.self.invariant

pub invariant_of-self-2 : goal.invariant_of-self-2
invariant_of-self-2 c =
    let other : is_asked c.args.question c.self.inside.asked.items ≡ false = ap (λ (asked : List AskedQuestion). is_asked c.args.question asked) c.self.view_is ∙ (sym c.is_asked.ensures ∙ c.if-is_asked.false) in
    subst AreAskedOnce (sym c.in_ok-push.ensures.items) (asked-more c.args.place c.args.question c.self.inside.asked.items c.self.invariant other)
