use Rattle.std.proofs.Common.{◌∙◌}
use Rattle.dns_session_map.proofs.clients.step_core.Goals as goal

pub returns-clause-over : goal.returns-clause-over
returns-clause-over g c = λ b s h. record { over = c.is_spent.ensures.value ∙ c.is_spent.ensures.spent b s h; free = c.is_freed.ensures.value ∙ c.is_freed.ensures.freed b s h }
