use Rattle.std.proofs.Common.{ℕ, List, Some, ap, ◌∙◌}
use Rattle.dns_signed_reply.proofs.StepLaws.{given_nowhere, given_on}
use Rattle.dns_signed_reply.proofs.step.follow.Goals as goal

pub returns-in_ok-name-in-Some : goal.returns-in_ok-name-in-Some
returns-in_ok-name-in-Some c = λ go. given_on _ _ _ _ go _ _ c.in_ok-push.ensures.items c.in_ok-copy.ensures.value (ap (λ (n : List (List ℕ)). Some n) c.in_ok-name-in-Some.ensures ∙ c.in-Some.ensures)

pub returns-in-None : goal.returns-in-None
returns-in-None c = λ go. given_nowhere _ _ _ _ go _ _ c.in_ok-push.ensures.items c.in_ok-copy.ensures.value c.in-None.ensures c.nothing.ensures
