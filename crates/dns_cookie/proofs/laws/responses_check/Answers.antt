use Rattle.dns_cookie.proofs.Responses.{checked, good}
use Rattle.dns_cookie.proofs.laws.responses_check.Goals as goal

pub returns-clause-check : goal.returns-clause-check
returns-clause-check g c = λ f. checked (λ s r. g.F.FnOnce.post f (s, tt) r)

pub returns-clause-good : goal.returns-clause-good
returns-clause-good g c = good
