use Rattle.dns_core.proofs.Windows.{budgets_kept}
use Rattle.dns_core.proofs.laws.budgets_are_kept.Goals as goal

pub returns : goal.returns
returns c = budgets_kept
