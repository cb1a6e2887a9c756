use Rattle.std.proofs.Common.{ℕ, List, Some, ap, ◌∙◌}
use Rattle.dns_name_server.proofs.StepLaws.{given_nowhere, given_on}
use Rattle.dns_name_server.proofs.step.follow.Goals as goal

pub push-requires : goal.push-requires
push-requires c = c.in_ok-copy.ensures.lawful c.requires

pub returns-in-Some : goal.returns-in-Some
returns-in-Some c = λ z go. given_on _ _ _ _ go _ _ c.in_ok-push.ensures.ok c.in_ok-copy.ensures.value (ap (λ (n : List (List ℕ)). Some n) c.in_ok-name-in-Some.ensures ∙ c.in-Some.ensures)

pub returns : goal.returns
returns c = λ z go. given_nowhere _ _ _ _ go _ c.in_ok-push.ensures.ok c.in_ok-copy.ensures.value c.in-None.ensures
