use Rattle.std.proofs.Common.{ℕ, ap, ◌∙◌}
use Rattle.dns_service.specs.Answer.{Answer}
use Rattle.dns_authority.proofs.authority.AuthorityService.call.Goals as goal

pub returns-clause-answers : goal.returns-clause-answers
returns-clause-answers g c = λ k. ap (λ (a : ℕ → Answer). a k) (c.new.ensures ∙ c.in_ok-stream.ensures)
