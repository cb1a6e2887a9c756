-- An equation of functions, at each poll.
use Rattle.std.proofs.Common.{ℕ, ap, ◌∙◌}
use Rattle.dns_service.specs.Answer.{Answer}
use Rattle.dns_layers.proofs.layered.of_mapped.Goals as goal

pub returns : goal.returns
returns g c = λ k. ap (λ (f : ℕ → Answer). f k) (c.new-2.ensures ∙ c.new.ensures.answers)
